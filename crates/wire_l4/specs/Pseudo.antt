-- What a checksum covers besides the message (RFC 9293, section 3.1; RFC 768).
use Rattle.std.specs.Prelude.{ℕ, List, ◌∷◌, ◌++◌, length}
use Rattle.byteorder.specs.Endian.{big_bytes}
use Rattle.efi_base.specs.Checksum.{checksum_of}

-- the octets in front of a message: addresses, a zero, the protocol, the length of the message
abbrev pub pseudo_header : ℕ → ℕ → ℕ → ℕ → List ℕ
pseudo_header src dest proto len = big_bytes 4 src ++ (big_bytes 4 dest ++ (0 ∷ proto ∷ big_bytes 2 len))

-- the checksum of a message of this protocol with its pseudo header
abbrev pub message_sum : ℕ → ℕ → ℕ → List ℕ → ℕ
message_sum src dest proto message = checksum_of (pseudo_header src dest proto (length message) ++ message)
