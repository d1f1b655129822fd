-- Which word of a command line names the file that the capture goes to.
use Rattle.std.specs.Prelude.{ℕ, ◌+◌, Bool, List, [], ◌∷◌, Option, Some, None, nat_eq, bytes_eq, codes, option_map, if◌then◌else◌}
use Rattle.std.specs.List.{starts_with}

-- the place of the first word, if there is one
abbrev pub first_place : List (List ℕ) → Option ℕ
first_place [] = None
first_place (word ∷ rest) = Some 0

-- the place, counted from so many words before
abbrev pub shifted : ℕ → Option ℕ → Option ℕ
shifted n place = option_map (λ i. n + i) place

abbrev pub is_capture : List ℕ → Bool
is_capture word = bytes_eq word (codes "--capture")

abbrev pub is_capture_with_name : List ℕ → Bool
is_capture_with_name word = starts_with nat_eq word (codes "--capture=")

-- the place of the word after the first `--capture`, or of the first word that begins with `--capture=`, whichever
-- stands first
abbrev pub capture_place : List (List ℕ) → Option ℕ
capture_place [] = None
capture_place (word ∷ rest) =
    if is_capture word then shifted 1 (first_place rest)
    else if is_capture_with_name word then Some 0
    else shifted 1 (capture_place rest)
