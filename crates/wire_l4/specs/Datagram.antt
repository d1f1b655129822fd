-- UDP datagrams (RFC 768). Numbers stand at the places of the RFC's table, the highest octet first.
use Rattle.std.specs.Prelude.{ℕ, ◌+◌, ◌^◌, ◌<◌, ◌≤◌, ◌&&◌, ◌||◌, ◌==◌, Bool, nat_le, List, ◌++◌, length, take, drop, slice_range, Option, Some, None, if◌then◌else◌}
use Rattle.byteorder.specs.Endian.{big_number, big_bytes}
use Rattle.efi_base.specs.Checksum.{AreOctets}
use Rattle.wire_l4.specs.Pseudo.{message_sum}

-- a datagram: ports and data
pub record Datagram : Type 0 where
  pub sport : ℕ
  pub dport : ℕ
  pub payload : List ℕ

-- one that can be sent: its numbers fit their fields
pub record IsDatagram (d : Datagram) : Type 0 where
  pub from : d.sport < 2 ^ 16
  pub to : d.dport < 2 ^ 16
  pub octets : AreOctets d.payload
  pub bound : length d.payload ≤ 65507

-- the length of header and data in octets
abbrev pub datagram_length : List ℕ → ℕ
datagram_length bytes = big_number 2 (drop 4 bytes)

-- a header of 8 octets within the length, and the length within the octets there
abbrev pub has_datagram : List ℕ → Bool
has_datagram bytes = nat_le 8 (length bytes) && (nat_le 8 (datagram_length bytes) && nat_le (datagram_length bytes) (length bytes))

-- the parts of a datagram at their places; octets past the length are padding
abbrev pub datagram_in : List ℕ → Datagram
datagram_in bytes = record {
  sport = big_number 2 bytes;
  dport = big_number 2 (drop 2 bytes);
  payload = slice_range bytes 8 (datagram_length bytes);
}

-- the sender computed no checksum
abbrev pub has_no_sum : List ℕ → Bool
has_no_sum bytes = big_number 2 (drop 6 bytes) == 0

-- the pseudo header of protocol 17 and the datagram sum to all ones
abbrev pub has_right_udp_sum : ℕ → ℕ → List ℕ → Bool
has_right_udp_sum src dest bytes = message_sum src dest 17 (take (datagram_length bytes) bytes) == 0

-- the datagram there between these addresses, with no checksum or a right one
unfoldable pub datagram_of : ℕ → ℕ → List ℕ → Option Datagram
datagram_of src dest bytes =
    if has_datagram bytes && (has_no_sum bytes || has_right_udp_sum src dest bytes) then Some (datagram_in bytes) else None

-- the header of a datagram with this checksum
abbrev pub udp_header : Datagram → ℕ → List ℕ
udp_header d sum = big_bytes 2 d.sport ++ (big_bytes 2 d.dport ++ (big_bytes 2 (8 + length d.payload) ++ big_bytes 2 sum))

-- as it is sent: 0 would say that none was computed, and all ones sum to the same
abbrev pub sent_sum : ℕ → ℕ
sent_sum sum = if sum == 0 then 65535 else sum

-- the octets of a datagram between these addresses
unfoldable pub datagram_text : ℕ → ℕ → Datagram → List ℕ
datagram_text src dest d = udp_header d (sent_sum (message_sum src dest 17 (udp_header d 0 ++ d.payload))) ++ d.payload
