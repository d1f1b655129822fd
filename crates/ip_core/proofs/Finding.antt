-- Where no element of a list is found that passes a test, none does.
use Rattle.std.proofs.Common.{◌≡◌, ℕ, ◌+◌, ◌≤◌, Bool, true, false, cond, not, ◌||◌, nat_lt, List, [], ◌∷◌, length, Some, None, refl, arith}
use Rattle.std.proofs.lemmas.Bool.Decides.{nat_tests}
use Rattle.std.specs.List.{list_any, position, position_or_len}

none-by : (b : Bool) (q : ℕ) → cond b (Some q) None ≡ None → b ≡ false
none-by true q e = absurd (cc)
none-by false q e = refl

module _ {X : Type 0} (p : X → Bool) where
  -- the place is behind the last
  pub past-all : (xs : List X) → position p xs ≡ None → length xs ≤ position_or_len p xs
  past-all xs e =
      let s = none-by (nat_lt (position_or_len p xs) (length xs)) (position_or_len p xs) e in
      grind (arith, nat_tests, s)

  none-first : (x : X) (xs : List X) (here : Bool) → p x ≡ here → (length xs ≤ position_or_len p xs → list_any p xs ≡ false)
      → length (x ∷ xs) ≤ cond (not here) (1 + position_or_len p xs) 0 → (here || list_any p xs) ≡ false
  none-first x xs true e rest h = absurd (omega (arith, h))
  none-first x xs false e rest h = rest (omega (arith, h))

  none-past : (xs : List X) → length xs ≤ position_or_len p xs → list_any p xs ≡ false
  none-past [] h = refl
  none-past (x ∷ xs) h = none-first x xs (p x) refl (none-past xs) h

  pub not-found : (xs : List X) → position p xs ≡ None → list_any p xs ≡ false
  not-found xs e = none-past xs (past-all xs e)
