-- The moments of a request, counted from its asking.
use Rattle.std.proofs.Common.{◌≡◌, ℕ, zero, suc, ◌+◌, ◌-◌, ◌*◌, ◌≤◌, Bool, true, false, ◌==◌, ◌||◌, refl, sym, ap, ◌∙◌, arith, suc-mul}
use Rattle.std.proofs.lemmas.Bool.Decides.{nat_tests}
use Rattle.drv_arp.specs.Asks.{moments, is_in, IsGapAfter}

-- a gap before the last of so many gaps
one_gap : (first gap n : ℕ) → first + suc n * gap - gap ≡ first + n * gap
one_gap first gap n = omega (arith, suc-mul n gap)

or_is : (a b : Bool) → b ≡ true → (a || b) ≡ true
or_is true b h = refl
or_is false b h = h

pub same_is : (a b : ℕ) → a ≡ b → (a == b) ≡ true
same_is a b e = grind (arith, nat_tests)

is_same : (a b : ℕ) → (a == b) ≡ true → a ≡ b
is_same a b h = grind (arith, nat_tests)

below : (k n : ℕ) → k ≤ suc n → (k ≡ suc n → ⊥) → k ≤ n
below k n h other = omega (arith, h, other)

due_step : (first gap n k : ℕ) (b : Bool) → (k == suc n) ≡ b → k ≤ suc n →
    (k ≤ n → is_in (first + k * gap) (moments (first + n * gap) gap n) ≡ true) →
    (first + suc n * gap == first + k * gap || is_in (first + k * gap) (moments (first + n * gap) gap n)) ≡ true
due_step first gap n k true e h ih =
    let s : suc n ≡ k = sym (is_same k (suc n) e) in
    ap (λ b. b || is_in (first + k * gap) (moments (first + n * gap) gap n)) (same_is (first + suc n * gap) (first + k * gap) (ap (λ j. first + j * gap) s))
due_step first gap n k false e h ih =
    let le : k ≤ n = grind (arith, nat_tests, e, h) in
    or_is (first + suc n * gap == first + k * gap) (is_in (first + k * gap) (moments (first + n * gap) gap n)) (ih le)

-- so many gaps after the asking something is due
pub gap_due : (first gap n k : ℕ) → 1 ≤ k → k ≤ n → is_in (first + k * gap) (moments (first + n * gap) gap n) ≡ true
gap_due first gap zero k h le = absurd (omega (arith, h, le))
gap_due first gap (suc n) k h le =
    ap (λ l. first + suc n * gap == first + k * gap || is_in (first + k * gap) (moments l gap n)) (one_gap first gap n)
    ∙ due_step first gap n k (k == suc n) refl le (gap_due first gap n k h)

only_step : (first gap n m : ℕ) (b : Bool) → (first + suc n * gap == m) ≡ b →
    (b || is_in m (moments (first + n * gap) gap n)) ≡ true → (is_in m (moments (first + n * gap) gap n) ≡ true → IsGapAfter first gap n m) →
    IsGapAfter first gap (suc n) m
only_step first gap n m true e h ih = (suc n, omega arith, omega arith, sym (is_same (first + suc n * gap) m e))
only_step first gap n m false e h ih = let r = ih h in (r.0, r.1, omega (arith, r.2), r.3)

-- nothing is due at other moments
pub due_gap : (first gap n m : ℕ) → is_in m (moments (first + n * gap) gap n) ≡ true → IsGapAfter first gap n m
due_gap first gap zero m h = absurd (cc)
due_gap first gap (suc n) m h =
    only_step first gap n m (first + suc n * gap == m) refl
    (ap (λ l. first + suc n * gap == m || is_in m (moments l gap n)) (sym (one_gap first gap n)) ∙ h)
    (due_gap first gap n m)

pub last_is : (last m : ℕ) → (last == m) ≡ true → m ≡ last
last_is last m h = sym (is_same last m h)
