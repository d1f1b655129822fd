-- Octets as two lower-case hexadecimal digits each.
use Rattle.std.specs.Prelude.{ℕ, ◌+◌, ◌*◌, ◌-◌, ◌/◌, ◌%◌, Bool, true, false, ◌&&◌, nat_le, nat_lt, List, [], ◌∷◌, if◌then◌else◌}
use Rattle.std.specs.List.{flat_map}

-- a hexadecimal digit, without capitals
abbrev pub is_hex : ℕ → Bool
is_hex b = if nat_le b 57 then nat_le 48 b else nat_le 97 b && nat_le b 102

abbrev pub hex_value : ℕ → ℕ
hex_value b = if nat_le b 57 then b - 48 else b - 87

-- an even number of digits
abbrev pub is_hex_text : List ℕ → Bool
is_hex_text [] = true
is_hex_text (a ∷ []) = false
is_hex_text (a ∷ b ∷ rest) = (is_hex a && is_hex b) && is_hex_text rest

-- the octets that the digits write
abbrev pub hex_octets : List ℕ → List ℕ
hex_octets [] = []
hex_octets (a ∷ []) = []
hex_octets (a ∷ b ∷ rest) = (16 * hex_value a + hex_value b) ∷ hex_octets rest

-- the digit of a number below 16
abbrev pub hex_digit : ℕ → ℕ
hex_digit n = if nat_lt n 10 then n + 48 else n + 87

abbrev pub octet_text : ℕ → List ℕ
octet_text o = hex_digit (o / 16) ∷ hex_digit (o % 16) ∷ []

-- the digits of octets
abbrev pub hex_text : List ℕ → List ℕ
hex_text octets = flat_map octet_text octets
