-- The Internet checksum (RFC 1071, section 1).
use Rattle.std.specs.Prelude.{ℕ, ◌<◌, ◌+◌, ◌-◌, ◌*◌, List, [], ◌∷◌, nat_lt, if◌then◌else◌, slice_index}

-- the sum of two words of 16 bits, whose carry comes back in at the low end
abbrev pub ones_sum : ℕ → ℕ → ℕ
ones_sum a b = if nat_lt (a + b) 65536 then a + b else a + b - 65535

-- the octets as words of 16 bits, the higher octet first; an odd last octet is the higher one of its word
abbrev pub words : List ℕ → List ℕ
words [] = []
words (a ∷ []) = a * 256 ∷ []
words (a ∷ b ∷ bytes) = (a * 256 + b) ∷ words bytes

-- the one's complement sum of words
abbrev pub sum_of : List ℕ → ℕ
sum_of [] = 0
sum_of (w ∷ ws) = ones_sum w (sum_of ws)

-- the checksum of octets: the complement of the sum of their words. It is 0 exactly where they sum to all ones.
unfoldable pub checksum_of : List ℕ → ℕ
checksum_of bytes = 65535 - sum_of (words bytes)

-- the plain sum of words, with no carry brought back
abbrev pub plain_sum : List ℕ → ℕ
plain_sum [] = 0
plain_sum (w ∷ ws) = w + plain_sum ws

-- each is an octet
abbrev pub AreOctets : List ℕ → Type 0
AreOctets bytes = (i : ℕ) → slice_index bytes i < 256
