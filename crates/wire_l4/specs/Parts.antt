-- The parts of a segment, before its options are known to be well-formed and once they are.
use Rattle.std.specs.Prelude.{ℕ, ◌^◌, ◌&&◌, Bool, nat_le, nat_lt, List, length, drop, slice_index}
use Rattle.byteorder.specs.Endian.{big_number}
use Rattle.wire_l4.specs.Segment.{Segment, data_offset}
use Rattle.wire_l4.specs.Walk.{Known}

-- what a segment needs besides well-formed options
abbrev pub has_header : List ℕ → Bool
has_header bytes =
    nat_le 20 (length bytes) && (nat_lt (length bytes) (2 ^ 16) && (nat_le 20 (data_offset bytes)
    && nat_le (data_offset bytes) (length bytes)))

-- the segment whose header has these options
unfoldable pub segment_with : List ℕ → Known → Segment
segment_with bytes known = record {
  sport = big_number 2 bytes;
  dport = big_number 2 (drop 2 bytes);
  seq = big_number 4 (drop 4 bytes);
  ack = big_number 4 (drop 8 bytes);
  flags = slice_index bytes 13;
  window = big_number 2 (drop 14 bytes);
  mss = known.mss;
  shift = known.shift;
  payload = drop (data_offset bytes) bytes;
}
