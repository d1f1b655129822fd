-- Decimal numbers without leading zeros.
use Rattle.std.specs.Prelude.{ℕ, Bool, true, false, ◌&&◌, ◌==◌, not, nat_le, List, [], ◌∷◌, Option, Some, None, if◌then◌else◌}
use Rattle.std.specs.List.{list_all}
use Rattle.std.specs.Char.{is_ascii_digit}
use Rattle.std.specs.Str.Parse.{digits_value}

-- there is a first octet, and it isn't `0` unless it stands alone
abbrev pub has_no_leading_zero : List ℕ → Bool
has_no_leading_zero [] = false
has_no_leading_zero (b ∷ []) = true
has_no_leading_zero (b ∷ c ∷ rest) = not (b == 48)

-- decimal digits without a leading zero
abbrev pub is_number : List ℕ → Bool
is_number text = has_no_leading_zero text && list_all is_ascii_digit text

-- the number, where the text writes one that is at most this
abbrev pub number_of : ℕ → List ℕ → Option ℕ
number_of most text =
    if is_number text && nat_le (digits_value 10 text) most then Some (digits_value 10 text) else None
