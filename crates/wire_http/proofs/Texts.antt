-- Parts between commas, and digits.
use Rattle.std.proofs.Common.{◌≡◌, ◌≢◌, ℕ, zero, suc, ◌+◌, ◌-◌, ◌*◌, ◌^◌, ◌<◌, ◌≤◌, Bool, true, false, ◌==◌, cond, List, [], ◌∷◌, length, get_or, take, drop, map, refl, sym, ap, ◌∙◌, add-one, arith}
use Rattle.std.proofs.lemmas.Bool.Decides.{nat_tests}
use Rattle.std.proofs.Math.Nat.{pow-le-pow_right, pow-succ'}
use Rattle.std.proofs.lemmas.List.{take_all}
use Rattle.std.specs.Char.{is_ascii_digit, digit_value}
use Rattle.httparse.specs.Grammar.{trim_ows}
use Rattle.wire_http.specs.Fields.{parts, elements}
use Rattle.efi_base.specs.HostNames.{grow}

-- no comma
pub parts_whole : (text : List ℕ) → ((k : ℕ) → k < length text → get_or text k 0 ≢ 44) → parts text ≡ text ∷ []
parts_whole [] none = refl
parts_whole (b ∷ bytes) none =
    let first : b ≢ 44 = none 0 (omega arith) in
    let later : parts bytes ≡ bytes ∷ [] = parts_whole bytes (λ k h. none (suc k) (omega arith)) in
    grind (arith, nat_tests, later, first)

-- the first comma stands at n
pub parts_cut : (text : List ℕ) (n : ℕ) → n < length text → ((k : ℕ) → k < n → get_or text k 0 ≢ 44)
    → get_or text n 0 ≡ 44 → parts text ≡ take n text ∷ parts (drop (suc n) text)
parts_cut [] n h none at = absurd (omega arith)
parts_cut (b ∷ bytes) zero h none at = grind (arith, nat_tests, at)
parts_cut (b ∷ bytes) (suc n) h none at =
    let first : b ≢ 44 = none 0 (omega arith) in
    let later : parts bytes ≡ take n bytes ∷ parts (drop (suc n) bytes) =
    parts_cut bytes n (omega arith) (λ k h. none (suc k) (omega arith)) at in
    grind (arith, nat_tests, later, first)

-- there is a first part
pub parts_some : (text : List ℕ) → (p : List ℕ) × (ps : List (List ℕ)) × (parts text ≡ p ∷ ps)
parts_some [] = ([], [], refl)
parts_some (b ∷ bytes) = by_test (parts_some bytes) (b == 44)
  where
    by_test : ((p : List ℕ) × (ps : List (List ℕ)) × (parts bytes ≡ p ∷ ps)) → (t : Bool)
        → (p : List ℕ) × (ps : List (List ℕ)) × (cond t ([] ∷ parts bytes) (grow b (parts bytes)) ≡ p ∷ ps)
    by_test later true = ([], parts bytes, refl)
    by_test later false = (b ∷ later.0, later.1, ap (grow b) later.2)

-- a number of up to 18 digits has room for one more
pub digit_below : (n i d : ℕ) → n < 10 ^ i → d ≤ 9 → n * 10 + d < 10 ^ (i + 1)
digit_below n i d small digit = rw (add-one, pow-succ') (omega arith)

pub digit_fits : (n i d : ℕ) → n < 10 ^ i → i < 19 → d ≤ 9 → n * 10 + d < 10 ^ 19
digit_fits n i d small few digit =
    let ten : zero < 10 = omega arith in
    let more : i + 1 ≤ 19 = omega arith in
    let most : 10 ^ (i + 1) ≤ 10 ^ 19 = pow-le-pow_right ten more in
    let below : n * 10 + d < 10 ^ (i + 1) = digit_below n i d small digit in
    omega arith

-- the last element
pub elements_whole : (text : List ℕ) (n : ℕ) → n ≡ length text → ((k : ℕ) → k < n → get_or text k 0 ≢ 44)
    → elements text ≡ trim_ows (take n text) ∷ []
elements_whole text n all none =
    ap (map trim_ows) (parts_whole text (λ k h. none k (omega arith))) ∙ ap (λ (t : List ℕ). trim_ows t ∷ []) (sym (take_all n text (omega arith)))

-- an element, and those after its comma
pub elements_cut : (text : List ℕ) (n : ℕ) → n < length text → ((k : ℕ) → k < n → get_or text k 0 ≢ 44)
    → get_or text n 0 ≡ 44 → elements text ≡ trim_ows (take n text) ∷ elements (drop (n + 1) text)
elements_cut text n h none at =
    ap (map trim_ows) (parts_cut text n h none at) ∙ ap (λ (m : ℕ). trim_ows (take n text) ∷ elements (drop m text)) (sym (add-one n))

-- what a test of a digit tells
pub digit_from_test : (b : ℕ) → is_ascii_digit b ≡ true → (b - 48 ≤ 9) × (digit_value b ≡ b - 48)
digit_from_test b test = grind (arith, nat_tests)
