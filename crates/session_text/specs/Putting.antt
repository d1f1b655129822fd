-- What a line puts into what was said.
use Rattle.std.specs.Prelude.{◌≡◌, Bool, Option, Some, None, MatchBool}

-- a thing that is said once
abbrev pub once : {A : Type 0} → Option A → A → Option (Option A)
once None value = Some (Some value)
once (Some first) value = None

-- what is said next, or that the line is bad
abbrev pub Puts : {A : Type 0} → Option A → A → Bool → Type 0
Puts next new good = MatchBool good (next ≡ Some new) (next ≡ None)
