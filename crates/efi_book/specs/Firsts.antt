-- The first element of a list that passes a test.
use Rattle.std.specs.Prelude.{ℕ, Bool, List, Option, slice_get}
use Rattle.std.specs.List.{position}
use Rattle.std.specs.Option.{option_and_then}

module _ {X : Type 0} where
  abbrev pub first_by : (X → Bool) → List X → Option X
  first_by test xs = option_and_then (λ (k : ℕ). slice_get xs k) (position test xs)
