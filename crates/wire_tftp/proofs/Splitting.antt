-- Texts and their zeros, in front of what follows them.
use Rattle.std.proofs.Common.{◌≡◌, ◌≢◌, ℕ, zero, suc, ◌+◌, ◌-◌, ◌<◌, ◌≤◌, ◌==◌, ◌⊎◌, inl, inr, Bool, true, false, List, [], ◌∷◌, ◌++◌, length, get_or, take, drop, Option, Some, None, refl, ap, ◌∙◌, add-one, arith}
use Rattle.std.proofs.lemmas.Bool.Decides.{nat_tests}
use Rattle.std.proofs.lemmas.List.{take_all, length-drop}
use Rattle.std.specs.Option.{option_map, option_and_then}
use Rattle.wire_tftp.specs.Texts.{is_text, texts_of, grown}

-- no octet is zero
pub text-whole : (octets : List ℕ) → ((k : ℕ) → k < length octets → get_or octets k 0 ≢ 0) → is_text octets ≡ true
text-whole [] none = refl
text-whole (zero ∷ octets) none = absurd (none 0 (omega arith) refl)
text-whole (suc c ∷ octets) none = text-whole octets (λ k h. none (suc k) (omega arith))

-- one is
pub text-broken : (octets : List ℕ) (n : ℕ) → n < length octets → get_or octets n 0 ≡ 0 → is_text octets ≡ false
text-broken [] n h at = absurd (omega arith)
text-broken (zero ∷ octets) n h at = refl
text-broken (suc c ∷ octets) zero h at = absurd (omega arith)
text-broken (suc c ∷ octets) (suc n) h at = text-broken octets n (omega arith) at

grown-front : (c : ℕ) (text : List ℕ) (texts : Option (List (List ℕ)))
    → grown c (option_map (λ texts. text ∷ texts) texts) ≡ option_map (λ texts. (c ∷ text) ∷ texts) texts
grown-front c text None = refl
grown-front c text (Some texts) = refl

-- no zero
pub texts-open : (octets : List ℕ) → 0 < length octets → ((k : ℕ) → k < length octets → get_or octets k 0 ≢ 0) → texts_of octets ≡ None
texts-open [] l none = absurd (omega arith)
texts-open (zero ∷ octets) l none = absurd (none 0 (omega arith) refl)
texts-open (suc c ∷ []) l none = refl
texts-open (suc c ∷ d ∷ octets) l none = ap (grown (suc c)) (texts-open (d ∷ octets) (omega arith) (λ k h. none (suc k) (omega arith)))

-- the first zero stands at n
pub texts-cut : (octets : List ℕ) (n : ℕ) → n < length octets → ((k : ℕ) → k < n → get_or octets k 0 ≢ 0) → get_or octets n 0 ≡ 0
    → texts_of octets ≡ option_map (λ texts. take n octets ∷ texts) (texts_of (drop (suc n) octets))
texts-cut [] n h none at = absurd (omega arith)
texts-cut (zero ∷ octets) zero h none at = refl
texts-cut (zero ∷ octets) (suc n) h none at = absurd (none 0 (omega arith) refl)
texts-cut (suc c ∷ octets) zero h none at = absurd (omega arith)
texts-cut (suc c ∷ octets) (suc n) h none at =
    ap (grown (suc c)) (texts-cut octets n (omega arith) (λ k l. none (suc k) (omega arith)) at) ∙ grown-front (suc c) (take n octets) (texts_of (drop (suc n) octets))

-- a text that was written
pub texts-front : (text rest : List ℕ) → is_text text ≡ true → texts_of (text ++ (0 ∷ rest)) ≡ option_map (λ texts. text ∷ texts) (texts_of rest)
texts-front [] rest h = refl
texts-front (zero ∷ text) rest h = absurd (cc)
texts-front (suc c ∷ text) rest h = ap (grown (suc c)) (texts-front text rest h) ∙ grown-front (suc c) text (texts_of rest)

pub text-ends : (octets : List ℕ) (n : ℕ) → n ≤ length octets → ((k : ℕ) → k < n → get_or octets k 0 ≢ 0)
    → (n < length octets → get_or octets n 0 ≡ 0) → (n == length octets) ≡ is_text octets
text-ends octets n within before at = by_place (split_at)
  where
    split_at : (n < length octets) ⊎ (n ≡ length octets)
    split_at = grind arith

    by_place : ((n < length octets) ⊎ (n ≡ length octets)) → (n == length octets) ≡ is_text octets
    by_place (inl h) = rw (text-broken octets n h (at h)) (grind (arith, nat_tests))
    by_place (inr e) = rw (text-whole octets (λ k h. before k (omega arith))) (grind (arith, nat_tests))

pub texts-split : (octets : List ℕ) (n : ℕ) → n < length octets → ((k : ℕ) → k < n → get_or octets k 0 ≢ 0) → get_or octets n 0 ≡ 0
    → texts_of octets ≡ option_map (λ texts. take n octets ∷ texts) (texts_of (take (length octets - (n + 1)) (drop (n + 1) octets)))
texts-split octets n h before at =
    let whole : take (length octets - (n + 1)) (drop (n + 1) octets) ≡ drop (n + 1) octets = take_all _ _ (omega (arith, length-drop (n + 1) octets)) in
    rw (whole, add-one) (texts-cut octets n h before at)

pub texts-unended : (octets : List ℕ) (n : ℕ) → n ≡ length octets → ((k : ℕ) → k < n → get_or octets k 0 ≢ 0)
    → 0 < length octets → texts_of octets ≡ None
texts-unended octets n e before l = texts-open octets l (λ k h. before k (omega arith))
