-- Ticks of any machine: one after another in the definition, from one due moment to the next in the code.
use Rattle.std.specs.Prelude.{◌≡◌, refl, ℕ, ◌+◌, ◌-◌, ◌<◌, ◌≤◌, zero, suc, Option, Some, None, IfSome}
use Rattle.std.proofs.Common.{sym, ◌∙◌, ap, subst, arith}

-- so many ticks, one after another
abbrev pub ticks : {S : Type 0} → (S → ℕ) → (ℕ → S → S) → ℕ → S → S
ticks moment act zero s = s
ticks moment act (suc n) s = ticks moment act n (act (moment s + 1) s)

-- a machine with moments: `act m` does what is due at m, `at m` only brings the moment
pub record IsTimed {S : Type 0} (moment : S → ℕ) (act at : ℕ → S → S) (next : S → Option ℕ) (Good : S → Type 0) : Type 0 where
  pub acted : (m : ℕ) (s : S) → moment (act m s) ≡ m
  pub placed : (m : ℕ) (s : S) → moment (at m s) ≡ m
  pub act_at : (m k : ℕ) (s : S) → act m (at k s) ≡ act m s
  pub at_at : (m k : ℕ) (s : S) → at m (at k s) ≡ at m s
  pub at_same : (s : S) → Good s → at (moment s) s ≡ s
  pub good_at : (m : ℕ) (s : S) → Good s → Good (at m s)
  pub quiet : (s : S) (m : ℕ) → Good s → moment s < m → IfSome (next s) (λ t. m < t) → act m s ≡ at m s
  pub next_at : (s : S) (k : ℕ) → Good s → moment s < k → IfSome (next s) (λ t. k < t) → next (at k s) ≡ next s
  pub later : (s : S) → Good s → IfSome (next s) (λ t. moment s < t)

pub nearer : (o : Option ℕ) (a b : ℕ) → a ≤ b → IfSome o (λ t. b < t) → IfSome o (λ t. a < t)
nearer None a b le h = tt
nearer (Some t) a b le h = omega (arith, le, h)

module _ {S : Type 0} (moment : S → ℕ) (act at : ℕ → S → S) (next : S → Option ℕ) (Good : S → Type 0) (law : IsTimed moment act at next Good) where
  -- ticks at which nothing is due only bring the moment
  pub ticks_quiet : (n : ℕ) (s : S) → Good s → IfSome (next s) (λ t. moment s + n < t) → ticks moment act n s ≡ at (moment s + n) s
  ticks_quiet zero s good h =
      let e : moment s ≡ moment s + 0 = omega arith in
      sym (law.at_same s good) ∙ ap (λ k. at k s) e
  ticks_quiet (suc n) s good h =
      let first : IfSome (next s) (λ t. moment s + 1 < t) = nearer (next s) (moment s + 1) (moment s + suc n) (omega arith) h in
      let up : moment s < moment s + 1 = omega arith in
      let t = at (moment s + 1) s in
      let here : moment t ≡ moment s + 1 = law.placed (moment s + 1) s in
      let stays : next t ≡ next s = law.next_at s (moment s + 1) good up first in
      let count : moment t + n ≡ moment s + suc n = omega (arith, here) in
      let IsFar : Option ℕ → Type 0 = λ o. IfSome o (λ x. moment s + suc n < x) in
      let rest = ticks_quiet n t (law.good_at (moment s + 1) s good) (nearer (next t) (moment t + n) (moment s + suc n) (omega (arith, count)) (subst IsFar (sym stays) h)) in
      ap (λ x. ticks moment act n x) (law.quiet s (moment s + 1) good up first) ∙ rest ∙ law.at_at (moment t + n) (moment s + 1) s
      ∙ ap (λ k. at k s) count

  ticks_last : (n : ℕ) (s : S) → ticks moment act (suc n) s ≡ act (moment (ticks moment act n s) + 1) (ticks moment act n s)
  ticks_last zero s = refl
  ticks_last (suc n) s = ticks_last n (act (moment s + 1) s)

  ticks_add : (a b n : ℕ) (s : S) → n ≡ a + b → ticks moment act n s ≡ ticks moment act b (ticks moment act a s)
  ticks_add zero b n s e = let f : n ≡ b = omega (arith, e) in ap (λ k. ticks moment act k s) f
  ticks_add (suc a) b zero s e = absurd (omega (arith, e))
  ticks_add (suc a) b (suc n) s e = ticks_add a b n (act (moment s + 1) s) (omega (arith, e))

  -- up to the next due moment
  jump : (k m : ℕ) (s : S) → Good s → m ≡ moment s + k + 1 → next s ≡ Some m → ticks moment act (suc k) s ≡ act m s
  jump k m s good e at_m =
      let IsAfter : Option ℕ → Type 0 = λ o. IfSome o (λ x. moment s + k < x) in
      let before : IsAfter (next s) = subst IsAfter (sym at_m) (omega (arith, e)) in
      let calm = ticks_quiet k s good before in
      let count : moment (at (moment s + k) s) + 1 ≡ m = omega (arith, law.placed (moment s + k) s, e) in
      ticks_last k s ∙ ap (λ x. act (moment x + 1) x) calm ∙ ap (λ j. act j (at (moment s + k) s)) count ∙ law.act_at m (moment s + k) s

  -- one walk of the code
  pub steps_once : (s t : S) (m now : ℕ) → Good s → next s ≡ Some m → m ≤ now → t ≡ act m s
      → (moment t ≤ now) × (ticks moment act (now - moment t) t ≡ ticks moment act (now - moment s) s) × (now - moment t < now - moment s)
  steps_once s t m now good e le same =
      let IsLater : Option ℕ → Type 0 = λ o. IfSome o (λ x. moment s < x) in
      let after : moment s < m = subst IsLater e (law.later s good) in
      let at_m : moment t ≡ m = ap moment same ∙ law.acted m s in
      let here : m ≡ moment s + (m - moment s - 1) + 1 = omega (arith, after) in
      let count : now - moment s ≡ suc (m - moment s - 1) + (now - m) = omega (arith, after, le) in
      let rest : now - moment t ≡ now - m = omega (arith, at_m) in (
        omega (arith, at_m, le),
        ap (λ k. ticks moment act k t) rest ∙ ap (λ x. ticks moment act (now - m) x) same
            ∙ sym (ap (λ x. ticks moment act (now - m) x) (jump (m - moment s - 1) m s good here e)) ∙ sym (ticks_add (suc (m - moment s - 1)) (now - m) (now - moment s) s count),
        omega (arith, at_m, after, le),
      )

  -- the last stretch
  pub rests : (s : S) (now : ℕ) → Good s → moment s ≤ now → IfSome (next s) (λ t. now < t) → ticks moment act (now - moment s) s ≡ at now s
  rests s now good le before =
      let sum : moment s + (now - moment s) ≡ now = omega (arith, le) in
      ticks_quiet (now - moment s) s good (nearer (next s) (moment s + (now - moment s)) now (omega (arith, sum)) before) ∙ ap (λ k. at k s) sum
