-- IPv4 packets (RFC 791, section 3.1). Numbers stand at the places of the RFC's table, the highest octet first.
use Rattle.std.specs.Prelude.{◌≡◌, ℕ, ◌+◌, ◌*◌, ◌/◌, ◌%◌, ◌^◌, ◌<◌, ◌≤◌, ◌&&◌, ◌||◌, ◌==◌, Bool, nat_le, nat_lt, List, ◌∷◌, ◌++◌, length, take, drop, slice_index, slice_range, Option, Some, None, if◌then◌else◌}
use Rattle.byteorder.specs.Endian.{big_number, big_bytes}
use Rattle.efi_base.specs.Checksum.{checksum_of}

-- a packet: addresses, protocol, identification, don't-fragment, more-fragments, the place of its payload in the
-- datagram in octets, time to live, and the payload. Options are skipped.
pub record Packet : Type 0 where
  pub src : ℕ
  pub dest : ℕ
  pub proto : ℕ
  pub id : ℕ
  pub df : Bool
  pub mf : Bool
  pub place : ℕ
  pub ttl : ℕ
  pub payload : List ℕ

-- what has a spelling: fields that fit, a place that is a multiple of 8, and a total length of at most 65,535
pub record IsPacket (p : Packet) : Type 0 where
  pub src : p.src < 2 ^ 32
  pub dest : p.dest < 2 ^ 32
  pub proto : p.proto < 2 ^ 8
  pub id : p.id < 2 ^ 16
  pub place : p.place < 2 ^ 16
  pub eights : p.place % 8 ≡ 0
  pub ttl : p.ttl < 2 ^ 8
  pub payload : length p.payload ≤ 65515

-- the word of flags and place: don't-fragment, more-fragments, and the place in eights of octets
abbrev pub fragment_number : Bool → Bool → ℕ → ℕ
fragment_number df mf place = (if df then 16384 else 0) + ((if mf then 8192 else 0) + place / 8)

-- a header without options that has this checksum: version 4 and five words, service 0, the total length
abbrev pub header_text : Packet → ℕ → List ℕ
header_text p sum =
    69 ∷ 0 ∷ (big_bytes 2 (20 + length p.payload) ++ (big_bytes 2 p.id ++ (big_bytes 2 (fragment_number p.df p.mf p.place)
    ++ (p.ttl ∷ p.proto ∷ (big_bytes 2 sum ++ (big_bytes 4 p.src ++ big_bytes 4 p.dest))))))

-- the octets of a packet: the checksum is that of its header with a checksum of 0
abbrev pub packet_text : Packet → List ℕ
packet_text p = header_text p (checksum_of (header_text p 0)) ++ p.payload

-- the length of the header in octets: its field counts words of four
abbrev pub header_length : List ℕ → ℕ
header_length bytes = slice_index bytes 0 % 16 * 4

-- the length of header and payload in octets
abbrev pub total_length : List ℕ → ℕ
total_length bytes = big_number 2 (drop 2 bytes)

-- version 4, a header of at least 20 octets within the total length, and the total length within the octets there
abbrev pub has_packet : List ℕ → Bool
has_packet bytes =
    nat_le 20 (length bytes) && (slice_index bytes 0 / 16 == 4 && (nat_le 20 (header_length bytes)
    && (nat_le (header_length bytes) (total_length bytes) && nat_le (total_length bytes) (length bytes))))

-- the word of flags and place: reserved, don't-fragment, more-fragments, and 13 bits that count eights of octets
abbrev pub fragment_word : List ℕ → ℕ
fragment_word bytes = big_number 2 (drop 6 bytes)

-- the parts of a packet at their places; octets past the total length are padding
abbrev pub packet_in : List ℕ → Packet
packet_in bytes = record {
  src = big_number 4 (drop 12 bytes);
  dest = big_number 4 (drop 16 bytes);
  proto = slice_index bytes 9;
  id = big_number 2 (drop 4 bytes);
  df = fragment_word bytes / 16384 % 2 == 1;
  mf = fragment_word bytes / 8192 % 2 == 1;
  place = fragment_word bytes % 8192 * 8;
  ttl = slice_index bytes 8;
  payload = slice_range bytes (header_length bytes) (total_length bytes);
}

-- the packet there, whether or not its header's checksum was filled in
unfoldable pub unverified_packet_of : List ℕ → Option Packet
unverified_packet_of bytes = if has_packet bytes then Some (packet_in bytes) else None

-- the header sums to all ones
abbrev pub has_right_header : List ℕ → Bool
has_right_header bytes = checksum_of (take (header_length bytes) bytes) == 0

-- the packet there, with a right checksum of the header
unfoldable pub packet_of : List ℕ → Option Packet
packet_of bytes = if has_packet bytes && has_right_header bytes then Some (packet_in bytes) else None

-- a part of a datagram that was cut into several (RFC 791, section 3.2): more fragments follow, or it has a place
-- behind the first
abbrev pub is_fragment : Packet → Bool
is_fragment p = p.mf || nat_lt 0 p.place
