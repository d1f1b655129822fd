-- Numbers of decimal digits.
use Rattle.std.proofs.Common.{◌≡◌, ℕ, ◌+◌, ◌-◌, ◌*◌, ◌^◌, ◌<◌, ◌≤◌, ◌&&◌, Bool, true, false, nat_le, nat_lt, List, length, get_or, take, Some, None, if◌then◌else◌, sym, ap, ◌∙◌, refl, arith}
use Rattle.std.proofs.lemmas.Bool.Decides.{nat_tests}
use Rattle.std.proofs.lemmas.Int.Digits.{digits_value_more}
use Rattle.std.proofs.lemmas.List.{take_all}
use Rattle.std.proofs.lemmas.List.Folds.{list_all_more}
use Rattle.std.proofs.lemmas.Str.Parse.{digits_value-take-le}
use Rattle.std.specs.Char.{is_ascii_digit, digit_value}
use Rattle.std.specs.List.{list_all}
use Rattle.std.specs.Str.Parse.{digits_value}
use Rattle.wire_tftp.specs.Options.{number_of}

-- what a test of a digit tells
digit-value : (b : ℕ) → is_ascii_digit b ≡ true → digit_value b ≡ b - 48
digit-value b test = grind (arith, nat_tests)

-- one digit more
pub digit-more : (text : List ℕ) (i tens more : ℕ) → i < length text → is_ascii_digit (get_or text i 0) ≡ true
    → tens ≡ digits_value 10 (take i text) * 10 → more ≡ tens + (get_or text i 0 - 48) → more ≡ digits_value 10 (take (i + 1) text)
digit-more text i tens more h test t m =
    let step = digits_value_more 10 text i h in
    let digit = digit-value (get_or text i 0) test in
    omega (arith, step, digit, t, m)

pub digits-more : (text : List ℕ) (i : ℕ) → i < length text → is_ascii_digit (get_or text i 0) ≡ true
    → list_all is_ascii_digit (take i text) ≡ true → list_all is_ascii_digit (take (i + 1) text) ≡ true
digits-more text i h test all = list_all_more is_ascii_digit text i 0 h ∙ ap (λ (b : Bool). b && is_ascii_digit (get_or text i 0)) all ∙ test

no-number : (some digits : Bool) (value : ℕ) → 2 ^ 64 ≤ value → (if some && (digits && nat_lt value (2 ^ 64)) then Some value else None) ≡ None
no-number some digits value h = grind (arith, nat_tests)

pub is-number : (some digits : Bool) (value : ℕ) → some ≡ true → digits ≡ true → value < 2 ^ 64
    → (if some && (digits && nat_lt value (2 ^ 64)) then Some value else None) ≡ Some value
is-number some digits value s d h = grind (arith, nat_tests)

-- the digits so far are too large a number, and so are all
pub too-large : (text : List ℕ) (i : ℕ) → 2 ^ 64 ≤ digits_value 10 (take i text) → None ≡ number_of text
unfolding number_of
too-large text i h =
    let less : digits_value 10 (take i text) ≤ digits_value 10 text = digits_value-take-le 10 text i (omega arith) in
    sym (no-number (nat_le 1 (length text)) (list_all is_ascii_digit text) (digits_value 10 text) (omega (arith, less, h)))

-- all digits were read
pub whole-number : (text : List ℕ) (i n : ℕ) → length text ≤ i → 1 ≤ length text → n ≡ digits_value 10 (take i text)
    → list_all is_ascii_digit (take i text) ≡ true → n < 2 ^ 64 → Some n ≡ number_of text
unfolding number_of
whole-number text i n h some e all fits =
    let same : take i text ≡ text = take_all _ _ h in
    let value : n ≡ digits_value 10 text = e ∙ ap (digits_value 10) same in
    let digits : list_all is_ascii_digit text ≡ true = sym (ap (list_all is_ascii_digit) same) ∙ all in
    let there : nat_le 1 (length text) ≡ true = grind (arith, nat_tests) in
    let small : digits_value 10 text < 2 ^ 64 = omega (arith, value, fits) in
    ap (λ n. Some n) value ∙ sym (is-number (nat_le 1 (length text)) (list_all is_ascii_digit text) (digits_value 10 text) there digits small)
