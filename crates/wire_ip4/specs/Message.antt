-- ICMP messages (RFC 792). The protocol of their packets is 1.
use Rattle.std.specs.Prelude.{ℕ, ◌^◌, ◌<◌, ◌&&◌, ◌==◌, Bool, nat_le, List, ◌∷◌, ◌++◌, length, drop, slice_index, Option, Some, None, if◌then◌else◌}
use Rattle.byteorder.specs.Endian.{big_number, big_bytes}
use Rattle.efi_base.specs.Checksum.{checksum_of, AreOctets}

-- a message: its type and code, the four octets whose meaning these tell, and what follows them
pub record IcmpMessage : Type 0 where
  pub kind : ℕ
  pub code : ℕ
  pub rest : ℕ
  pub payload : List ℕ

-- what has a spelling
pub record IsIcmpMessage (m : IcmpMessage) : Type 0 where
  pub kind : m.kind < 2 ^ 8
  pub code : m.code < 2 ^ 8
  pub rest : m.rest < 2 ^ 32
  pub payload : AreOctets m.payload

-- the first eight octets of a message that has this checksum
abbrev pub front_text : IcmpMessage → ℕ → List ℕ
front_text m sum = m.kind ∷ m.code ∷ (big_bytes 2 sum ++ big_bytes 4 m.rest)

-- the octets of a message: the checksum is that of all of it with a checksum of 0
abbrev pub message_text : IcmpMessage → List ℕ
message_text m = front_text m (checksum_of (front_text m 0 ++ m.payload)) ++ m.payload

-- eight octets or more that sum to all ones
abbrev pub has_message : List ℕ → Bool
has_message bytes = nat_le 8 (length bytes) && checksum_of bytes == 0

-- the parts of a message at their places
abbrev pub message_in : List ℕ → IcmpMessage
message_in bytes = record {
  kind = slice_index bytes 0;
  code = slice_index bytes 1;
  rest = big_number 4 (drop 4 bytes);
  payload = drop 8 bytes;
}

-- the message that the octets spell
abbrev pub message_of : List ℕ → Option IcmpMessage
message_of bytes = if has_message bytes then Some (message_in bytes) else None
