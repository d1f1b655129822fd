-- Numbers, and Ethernet addresses, as values of options.
use Rattle.std.specs.Prelude.{ℕ, Bool, true, false, ◌&&◌, ◌==◌, not, nat_le, List, [], ◌∷◌, length, map, slice_index, Option, Some, None, if◌then◌else◌, ◌+◌, ◌-◌, ◌*◌, ◌%◌}
use Rattle.std.specs.List.{list_all}
use Rattle.std.specs.Char.{is_ascii_digit}
use Rattle.std.specs.Str.Parse.{digits_value}
use Rattle.efi_base.specs.declared.plain.Mac.{Mac}

-- there is a first octet, and it isn't `0` unless it stands alone
abbrev pub has_no_leading_zero : List ℕ → Bool
has_no_leading_zero [] = false
has_no_leading_zero (b ∷ []) = true
has_no_leading_zero (b ∷ c ∷ rest) = not (b == 48)

-- decimal digits without a leading zero
abbrev pub is_number : List ℕ → Bool
is_number text = has_no_leading_zero text && list_all is_ascii_digit text

-- the number, where the text writes one that is at most this
abbrev pub number_of : ℕ → List ℕ → Option ℕ
number_of most text =
    if is_number text && nat_le (digits_value 10 text) most then Some (digits_value 10 text) else None

-- a hexadecimal digit, without capitals
abbrev pub is_hex : ℕ → Bool
is_hex b = if nat_le b 57 then nat_le 48 b else nat_le 97 b && nat_le b 102

abbrev pub hex_value : ℕ → ℕ
hex_value b = if nat_le b 57 then b - 48 else b - 87

-- the octet that two digits at this place write
abbrev pub octet_at : List ℕ → ℕ → ℕ
octet_at text i = 16 * hex_value (slice_index text i) + hex_value (slice_index text (i + 1))

abbrev pub is_octet_at : List ℕ → ℕ → Bool
is_octet_at text i = is_hex (slice_index text i) && is_hex (slice_index text (i + 1))

abbrev pub is_colon_at : List ℕ → ℕ → Bool
is_colon_at text i = slice_index text i == 58

-- where the octets and the colons stand
abbrev pub octet_places : List ℕ
octet_places = 0 ∷ 3 ∷ 6 ∷ 9 ∷ 12 ∷ 15 ∷ []

abbrev pub colon_places : List ℕ
colon_places = 2 ∷ 5 ∷ 8 ∷ 11 ∷ 14 ∷ []

-- six octets of two digits, joined by colons
abbrev pub is_mac_text : List ℕ → Bool
is_mac_text text =
    length text == 17 && (list_all (is_octet_at text) octet_places && list_all (is_colon_at text) colon_places)

-- the unicast address that the text writes: its first octet is even
abbrev pub mac_of : List ℕ → Option Mac
mac_of text =
    if is_mac_text text && octet_at text 0 % 2 == 0 then Some (record { 0 = map (octet_at text) octet_places }) else None
