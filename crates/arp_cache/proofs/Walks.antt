-- A list of which a front is mapped, and one element more.
use Rattle.std.proofs.Common.{◌≡◌, ℕ, zero, suc, ◌+◌, ◌<◌, List, [], ◌∷◌, ◌++◌, length, get_or, slice_set, map, take, drop, refl, ap, arith, add-one}

pub map_more : {A : Type 0} (f : A → A) (d : A) (xs : List A) (i : ℕ) → i < length xs →
    slice_set (map f (take i xs) ++ drop i xs) i (f (get_or (map f (take i xs) ++ drop i xs) i d)) ≡ map f (take (suc i) xs) ++ drop (suc i) xs
map_more f d [] i h = absurd (omega arith)
map_more f d (x ∷ xs) zero h = refl
map_more f d (x ∷ xs) (suc i) h = ap (λ t. f x ∷ t) (map_more f d xs i (omega arith))

-- the same of what a step leaves
pub map_step : {A : Type 0} (f : A → A) (d : A) (xs now : List A) (i : ℕ) (v : A) → i < length xs → now ≡ map f (take i xs) ++ drop i xs →
    v ≡ f (get_or now i d) → slice_set now i v ≡ map f (take (i + 1) xs) ++ drop (i + 1) xs
map_step f d xs now i v h is to = rw to (rw is (rw (add-one i) (map_more f d xs i h)))
