-- The words of a line: what separators part, mostly single spaces.
use Rattle.std.specs.Prelude.{ℕ, ◌+◌, ◌==◌, List, take, drop, position, Option, Some, None, option_map}

-- where the first separator stands
abbrev pub place_of : ℕ → List ℕ → Option ℕ
place_of separator text = position (λ b. b == separator) text

-- the word in front of the first separator: the whole text where there is none
abbrev pub front_at : Option ℕ → List ℕ → List ℕ
front_at None text = text
front_at (Some place) text = take place text

abbrev pub front_of : ℕ → List ℕ → List ℕ
front_of separator text = front_at (place_of separator text) text

-- what stands behind the first separator, where there is one
abbrev pub rest_of : ℕ → List ℕ → Option (List ℕ)
rest_of separator text = option_map (λ place. drop (place + 1) text) (place_of separator text)
