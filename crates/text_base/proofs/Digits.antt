-- Numbers and addresses as their readers meet them.
use Rattle.std.proofs.Common.{◌≡◌, ℕ, ◌+◌, ◌-◌, ◌*◌, ◌<◌, ◌≤◌, Bool, true, false, ◌&&◌, ◌==◌, List, [], ◌∷◌, length, take, drop, get_or, ap, sym, refl, ◌∙◌, arith, lit≤}
use Rattle.std.proofs.lemmas.List.{length-drop}
use Rattle.std.proofs.lemmas.Grind.{common_steps}
use Rattle.std.proofs.lemmas.Bool.{and_parts, false≢true}
use Rattle.std.proofs.lemmas.Bool.Decides.{nat_tests}
use Rattle.std.proofs.lemmas.Int.Digits.{digits_value_more}
use Rattle.std.proofs.lemmas.Str.Parse.{digits_value-take-le}
use Rattle.std.specs.Str.Parse.{digits_value}
use Rattle.std.proofs.lemmas.List.Folds.{list_all_at}
use Rattle.std.specs.List.{list_all}
use Rattle.std.specs.Char.{is_ascii_digit, digit_value}
use Rattle.text_base.specs.Hex.{is_hex, is_hex_text, hex_octets, hex_value}
use Rattle.text_base.specs.Addresses.{is_mac_text, is_octet_at, is_colon_at, colon_places}

octets_there : (a b c d e f g h : Bool) → (a && ((b && (c && (d && (e && (f && (g && true)))))) && h)) ≡ true
    → (b ≡ true) × (c ≡ true) × (d ≡ true) × (e ≡ true) × (f ≡ true) × (g ≡ true)
octets_there a b c d e f g h all =
    let inner = and_parts _ h (and_parts a _ all).1 in
    let second = and_parts b _ inner.0 in
    let third = and_parts c _ second.1 in
    let fourth = and_parts d _ third.1 in
    let fifth = and_parts e _ fourth.1 in
    let sixth = and_parts f _ fifth.1 in
    (second.0, third.0, fourth.0, fifth.0, sixth.0, (and_parts g _ sixth.1).0)

pub mac_octets : (text : List ℕ) → is_mac_text text ≡ true
    → (is_octet_at text 0 ≡ true) × (is_octet_at text 3 ≡ true) × (is_octet_at text 6 ≡ true) × (is_octet_at text 9 ≡ true)
    × (is_octet_at text 12 ≡ true) × (is_octet_at text 15 ≡ true)
mac_octets text h =
    octets_there (length text == 17) (is_octet_at text 0) (is_octet_at text 3) (is_octet_at text 6) (is_octet_at text 9) (is_octet_at text 12) (is_octet_at text 15) (list_all (is_colon_at text) colon_places) h

true_unless : (b : Bool) → (b ≡ false → ⊥) → b ≡ true
true_unless true h = refl
true_unless false h = absurd (h refl)

-- the digit at a place
digit_there : (text : List ℕ) (i : ℕ) → list_all is_ascii_digit text ≡ true → i < length text → is_ascii_digit (get_or text i 0) ≡ true
digit_there text i all within = true_unless _ (λ wrong. false≢true (sym (list_all_at is_ascii_digit text i 0 within wrong) ∙ all))

digit_means : (b : ℕ) → is_ascii_digit b ≡ true → digit_value b ≡ b - 48
digit_means b test = grind (arith, nat_tests)

-- the value with one digit more
pub value_more : (text : List ℕ) (i n : ℕ) → list_all is_ascii_digit text ≡ true → i < length text → n ≡ digits_value 10 (take i text)
    → (digits_value 10 (take (i + 1) text) ≡ n * 10 + (get_or text i 0 - 48)) × (n * 10 + (get_or text i 0 - 48) ≤ digits_value 10 text)
value_more text i n all within is =
    let digit = digit_means (get_or text i 0) (digit_there text i all within) in
    let more = digits_value_more 10 text i within in
    let same : digits_value 10 (take (i + 1) text) ≡ n * 10 + (get_or text i 0 - 48) = omega (arith, more, digit, is) in
    (same, omega (arith, same, digits_value-take-le 10 text (i + 1) (lit≤ tt)))

-- two digits in front of the rest
pub pair_at : (text : List ℕ) (i : ℕ) → i + 1 < length text → drop i text ≡ get_or text i 0 ∷ get_or text (i + 1) 0 ∷ drop (i + 2) text
pair_at text i within = grind (arith, common_steps)

few_digits : (rest : List ℕ) → length rest ≤ 1 → is_hex_text rest ≡ (length rest == 0)
few_digits [] few = refl
few_digits (a ∷ []) few = refl
few_digits (a ∷ b ∷ rest) few = absurd (omega arith)

few_octets : (rest : List ℕ) → length rest ≤ 1 → hex_octets rest ≡ []
few_octets [] few = refl
few_octets (a ∷ []) few = refl
few_octets (a ∷ b ∷ rest) few = absurd (omega arith)

-- less than two digits are left
pub none_left : (text : List ℕ) (i : ℕ) → i ≤ length text → length text ≤ i + 1 → is_hex_text (drop i text) ≡ (i == length text)
none_left text i within over =
    let size = length-drop i text in
    let few : length (drop i text) ≤ 1 = omega (arith, size) in
    let tests : (length (drop i text) == 0) ≡ (i == length text) = grind (arith, nat_tests, size) in
    few_digits (drop i text) few ∙ tests

pub octets_left : (text : List ℕ) (i : ℕ) → length text ≤ i + 1 → hex_octets (drop i text) ≡ []
octets_left text i over = few_octets (drop i text) (omega (arith, length-drop i text))

hex_more : (text : List ℕ) (i : ℕ) → i + 1 < length text
    → is_hex_text (drop i text) ≡ ((is_hex (get_or text i 0) && is_hex (get_or text (i + 1) 0)) && is_hex_text (drop (i + 2) text))
hex_more text i within = ap is_hex_text (pair_at text i within)

pub not_hex : (text : List ℕ) (i : ℕ) (r : Bool) → i + 1 < length text → r ≡ (is_hex (get_or text i 0) && is_hex (get_or text (i + 1) 0)) → r ≡ false
    → is_hex_text (drop i text) ≡ false
not_hex text i r within is wrong = hex_more text i within ∙ ap (λ (t : Bool). t && is_hex_text (drop (i + 2) text)) (sym is ∙ wrong)

pub hex_there : (text : List ℕ) (i : ℕ) → i + 1 < length text → is_hex_text (drop i text) ≡ true
    → (is_hex (get_or text i 0) ≡ true) × (is_hex (get_or text (i + 1) 0) ≡ true) × (is_hex_text (drop (i + 2) text) ≡ true)
hex_there text i within all =
    let parts = and_parts _ _ (sym (hex_more text i within) ∙ all) in
    let two = and_parts _ _ parts.0 in
    (two.0, two.1, parts.1)

pub octets_more : (text : List ℕ) (i : ℕ) → i + 1 < length text
    → hex_octets (drop i text) ≡ (16 * hex_value (get_or text i 0) + hex_value (get_or text (i + 1) 0)) ∷ hex_octets (drop (i + 2) text)
octets_more text i within = ap hex_octets (pair_at text i within)
