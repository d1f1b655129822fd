-- TCP segments (RFC 9293, section 3.1). Numbers stand at the places of the RFC's table, the highest octet first.
use Rattle.std.specs.Prelude.{ℕ, ◌*◌, ◌/◌, ◌^◌, ◌&&◌, ◌==◌, Bool, nat_le, nat_lt, List, [], length, drop, slice_index, slice_range, Option, Some, None, is_some, unwrap_or, if◌then◌else◌}
use Rattle.byteorder.specs.Endian.{big_number}
use Rattle.wire_l4.specs.Options.{Item, items_of, mss_in, shift_in}
use Rattle.wire_l4.specs.Pseudo.{message_sum}

-- a segment: ports, numbers, the eight flags as one number, window, the two options that are read, and the data
pub record Segment : Type 0 where
  pub sport : ℕ
  pub dport : ℕ
  pub seq : ℕ
  pub ack : ℕ
  pub flags : ℕ
  pub window : ℕ
  pub mss : Option ℕ
  pub shift : Option ℕ
  pub payload : List ℕ

-- the flag at this place of the octet of flags, counted from its lowest bit: FIN, SYN, RST, PSH, ACK
abbrev pub flag_at : ℕ → ℕ
flag_at place = 2 ^ place

-- the length of the header in octets: its field counts words of four
abbrev pub data_offset : List ℕ → ℕ
data_offset bytes = slice_index bytes 12 / 16 * 4

-- the options of the header
abbrev pub options_of : List ℕ → Option (List Item)
options_of bytes = items_of (slice_range bytes 20 (data_offset bytes))

-- a header of at least 20 octets within the octets there, with well-formed options. The length of a segment has 16
-- bits.
abbrev pub has_segment : List ℕ → Bool
has_segment bytes =
    nat_le 20 (length bytes) && (nat_lt (length bytes) (2 ^ 16) && (nat_le 20 (data_offset bytes)
    && (nat_le (data_offset bytes) (length bytes) && is_some (options_of bytes))))

-- the parts of a segment at their places
abbrev pub segment_in : List ℕ → Segment
segment_in bytes =
    let items = unwrap_or (options_of bytes) [] in
    record {
      sport = big_number 2 bytes;
      dport = big_number 2 (drop 2 bytes);
      seq = big_number 4 (drop 4 bytes);
      ack = big_number 4 (drop 8 bytes);
      flags = slice_index bytes 13;
      window = big_number 2 (drop 14 bytes);
      mss = mss_in items;
      shift = shift_in items;
      payload = drop (data_offset bytes) bytes;
    }

-- the segment there, whether or not its checksum was filled in
unfoldable pub unverified_segment_of : List ℕ → Option Segment
unverified_segment_of bytes = if has_segment bytes then Some (segment_in bytes) else None

-- the pseudo header of protocol 6 and the segment sum to all ones
abbrev pub has_right_sum : ℕ → ℕ → List ℕ → Bool
has_right_sum src dest bytes = message_sum src dest 6 bytes == 0

-- the segment there between these addresses, with a right checksum
unfoldable pub segment_of : ℕ → ℕ → List ℕ → Option Segment
segment_of src dest bytes = if has_segment bytes && has_right_sum src dest bytes then Some (segment_in bytes) else None
