-- Command lines as they are written: parts in any order.
use Rattle.std.specs.Prelude.{◌++◌, Bool, ◌&&◌, not, List, [], ◌∷◌, codes}
use Rattle.clap.specs.Words.{Text}
use Rattle.boot_words.specs.Grammar.{Setting, begins_with_hyphen, command_name, is_option, option_names}

-- the command, an option as two words, or an option as one
pub data Part : Type 0 where
  command : Text → Part
  spaced : Text → Text → Part
  joined : Text → Text → Part

-- the words of a part: `name`, `--name value`, `--name=value`
abbrev pub written : Part → List Text
written (command word) = word ∷ []
written (spaced name value) = (codes "--" ++ name) ∷ value ∷ []
written (joined name value) = (codes "--" ++ (name ++ (codes "=" ++ value))) ∷ []

-- the words of all of them, in their order
abbrev pub line_of : List Part → List Text
line_of [] = []
line_of (part ∷ rest) = written part ++ line_of rest

-- an option has one of the five names, and a word of its own has no hyphen in front
abbrev pub is_part : Part → Bool
is_part (command word) = not (begins_with_hyphen word)
is_part (spaced name value) = is_option option_names name && not (begins_with_hyphen value)
is_part (joined name value) = is_option option_names name

abbrev pub setting_of : Part → Setting
setting_of (command word) = (command_name, word)
setting_of (spaced name value) = (name, value)
setting_of (joined name value) = (name, value)
