-- A walk that looks for a child: what it passed doesn't count, and one that is met is found.
use Rattle.std.proofs.Common.{◌≡◌, ℕ, zero, suc, ◌+◌, Bool, true, false, List, [], ◌∷◌, drop, find, slice_get, Some, is_some, refl, ap, ◌∙◌, arith}

module _ {X : Type 0} (test : X → Bool) where
  pub met : (xs : List X) (i : ℕ) (x : X) → slice_get xs i ≡ Some x → test x ≡ true → is_some (find test xs) ≡ true
  met [] i x e h = absurd (cc)
  met (y ∷ ys) zero x e h =
      let same : y ≡ x = cc in
      let here : test y ≡ true = ap test same ∙ h in
      rw here refl
  met (y ∷ ys) (suc i) x e h = grind (arith, met ys i x e h)

  pub passed : (xs : List X) (i : ℕ) (x : X) → slice_get xs i ≡ Some x → test x ≡ false → find test (drop (i + 1) xs) ≡ find test (drop i xs)
  passed [] i x e h = absurd (cc)
  passed (y ∷ ys) zero x e h =
      let same : y ≡ x = cc in
      let here : test y ≡ false = ap test same ∙ h in
      rw here refl
  passed (y ∷ ys) (suc i) x e h =
      let next : suc i + 1 ≡ suc (i + 1) = omega arith in
      ap (λ k. find test (drop k (y ∷ ys))) next ∙ passed ys i x e h
