-- Numbers and addresses as their readers meet them.
use Rattle.std.proofs.Common.{◌≡◌, ◌≢◌, ℕ, ◌%◌, ◌^◌, ◌<◌, ◌≤◌, Bool, true, false, ◌&&◌, ◌==◌, cond, nat_le, List, [], ◌∷◌, length, drop, slice_index, map, Some, None, sym, ap, ◌∙◌, arith}
use Rattle.std.proofs.lemmas.Bool.{and_parts, and_right, ne_eqb}
use Rattle.std.proofs.lemmas.Bool.Decides.{nat_tests}
use Rattle.std.specs.List.{list_all}
use Rattle.std.specs.Char.{is_ascii_digit, digit_value}
use Rattle.std.specs.Str.Parse.{AllDigits, IsNumeral, digits_value, without_leading_plus}
use Rattle.boot_words.specs.Numbers.{has_no_leading_zero, is_number, number_of, is_mac_text, is_octet_at, is_colon_at, octet_at, octet_places, colon_places, mac_of}

digit_from_test : (b : ℕ) → is_ascii_digit b ≡ true → digit_value b < 10
digit_from_test b test = grind (arith, nat_tests)

all_digits : (text : List ℕ) → list_all is_ascii_digit text ≡ true → AllDigits 10 text
all_digits [] h = tt
all_digits (b ∷ rest) h =
    let parts = and_parts (is_ascii_digit b) (list_all is_ascii_digit rest) h in
    (digit_from_test b parts.0, all_digits rest parts.1)

no_sign : (b : ℕ) → is_ascii_digit b ≡ true → (b == 43) ≡ false
no_sign b test = grind (arith, nat_tests)

-- no plus stands in front, and the digits are a numeral
pub number_text : (text : List ℕ) → is_number text ≡ true → (without_leading_plus text ≡ text) × IsNumeral 10 text
number_text [] h = cc
number_text (b ∷ rest) h =
    let parts = and_parts (has_no_leading_zero (b ∷ rest)) (list_all is_ascii_digit (b ∷ rest)) h in
    let first = and_parts (is_ascii_digit b) (list_all is_ascii_digit rest) parts.1 in (
      ap (λ (t : Bool). drop (cond t 1 0) (b ∷ rest)) (no_sign b first.0),
      (omega arith, all_digits (b ∷ rest) parts.1),
    )

-- what a parse tells of such a text
pub parsed_ok : (text : List ℕ) (n : ℕ) → is_number text ≡ true → n ≡ digits_value 10 (without_leading_plus text)
    → n ≡ digits_value 10 text
parsed_ok text n h parsed = parsed ∙ ap (digits_value 10) (number_text text h).0

pub parsed_err : (text : List ℕ) → is_number text ≡ true
    → ¬ (IsNumeral 10 (without_leading_plus text) × (digits_value 10 (without_leading_plus text) < 2 ^ 32))
    → 2 ^ 32 ≤ digits_value 10 text
parsed_err text h failed =
    let facts = number_text text h in
    let over : digits_value 10 text < 2 ^ 32 → ⊥ = λ small. failed (rw facts.0 (facts.1, small)) in
    omega (arith, over)

pub number_there : (most : ℕ) (text : List ℕ) → is_number text ≡ true → digits_value 10 text ≤ most
    → number_of most text ≡ Some (digits_value 10 text)
number_there most text h small =
    let fits : nat_le (digits_value 10 text) most ≡ true = grind (arith, nat_tests, small) in
    ap (λ (t : Bool). cond (t && nat_le (digits_value 10 text) most) (Some (digits_value 10 text)) None) h
    ∙ ap (λ (t : Bool). cond t (Some (digits_value 10 text)) None) fits

pub number_over : (most : ℕ) (text : List ℕ) → is_number text ≡ true → most < digits_value 10 text
    → number_of most text ≡ None
number_over most text h large =
    let over : nat_le (digits_value 10 text) most ≡ false = grind (arith, nat_tests, large) in
    ap (λ (t : Bool). cond (t && nat_le (digits_value 10 text) most) (Some (digits_value 10 text)) None) h
    ∙ ap (λ (t : Bool). cond t (Some (digits_value 10 text)) None) over

-- the octets of an address
octets_there : (a b c d e f g h : Bool) → (a && ((b && (c && (d && (e && (f && (g && true)))))) && h)) ≡ true
    → (b ≡ true) × (c ≡ true) × (d ≡ true) × (e ≡ true) × (f ≡ true) × (g ≡ true)
octets_there a b c d e f g h all =
    let inner = and_parts _ h (and_parts a _ all).1 in
    let second = and_parts b _ inner.0 in
    let third = and_parts c _ second.1 in
    let fourth = and_parts d _ third.1 in
    let fifth = and_parts e _ fourth.1 in
    let sixth = and_parts f _ fifth.1 in
    (second.0, third.0, fourth.0, fifth.0, sixth.0, (and_parts g _ sixth.1).0)

pub mac_octets : (text : List ℕ) → is_mac_text text ≡ true
    → (is_octet_at text 0 ≡ true) × (is_octet_at text 3 ≡ true) × (is_octet_at text 6 ≡ true) × (is_octet_at text 9 ≡ true)
    × (is_octet_at text 12 ≡ true) × (is_octet_at text 15 ≡ true)
mac_octets text h =
    octets_there (length text == 17) (is_octet_at text 0) (is_octet_at text 3) (is_octet_at text 6) (is_octet_at text 9) (is_octet_at text 12) (is_octet_at text 15) (list_all (is_colon_at text) colon_places) h

-- an address of several
pub odd_mac : (text octets : List ℕ) → octets ≡ map (octet_at text) octet_places → slice_index octets 0 % 2 ≢ 0 → None ≡ mac_of text
odd_mac text octets is odd =
    let first : slice_index octets 0 ≡ octet_at text 0 = ap (λ (xs : List ℕ). slice_index xs 0) is in
    let test : (octet_at text 0 % 2 == 0) ≡ false = ne_eqb _ _ (λ e. odd (ap (λ (n : ℕ). n % 2) first ∙ e)) in
    sym (ap (λ (t : Bool). cond t (Some (record { 0 = map (octet_at text) octet_places })) None) (and_right (is_mac_text text) (octet_at text 0 % 2 == 0) test))
