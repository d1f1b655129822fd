-- What stands in a command line, by its words alone: one command, and options with one value each, in any order.
use Rattle.std.specs.Prelude.{◌++◌, ◌==◌, Bool, true, false, ◌&&◌, not, List, [], ◌∷◌, Option, Some, None, bytes_eq, codes, find, option_map, option_and_then, if◌then◌else◌}
use Rattle.std.specs.List.{list_all, list_any}
use Rattle.clap.specs.Words.{Text}
use Rattle.clap.specs.Lexer.{long_of}
use Rattle.boot_words.specs.declared.task.Task.{Task}
use Rattle.boot_words.specs.Lines.{is_word}
use Rattle.boot_words.specs.Tasks.{Given, task_of}

-- a name and what stands for it; the command stands for the name `command`
abbrev pub Setting : Type 0
Setting = Text × Text

abbrev pub command_name : Text
command_name = codes "command"

abbrev pub option_names : List Text
option_names = codes "emit" ∷ codes "capture" ∷ codes "buffer" ∷ codes "seed" ∷ codes "mac" ∷ []

abbrev pub is_option : List Text → Text → Bool
is_option names name = list_any (λ n. bytes_eq n name) names

abbrev pub begins_with_hyphen : Text → Bool
begins_with_hyphen [] = false
begins_with_hyphen (b ∷ rest) = b == 45

abbrev pub and_more : Setting → Option (List Setting) → Option (List Setting)
and_more s more = option_map (λ rest. s ∷ rest) more

-- a word of its own: it doesn't begin with a hyphen
abbrev pub plain_word : Text → Text → Option (List Setting) → Option (List Setting)
plain_word name word more = if begins_with_hyphen word then None else and_more (name, word) more

-- `--name=value`, or `--name`, which waits for the next word
abbrev pub option_word : Text → Option Text → (Option Text → Option (List Setting)) → Option (List Setting)
option_word name (Some value) next = and_more (name, value) (next None)
option_word name None next = next (Some name)

abbrev pub word_settings : List Text → Option (Text × Option Text) → Text → (Option Text → Option (List Setting)) → Option (List Setting)
word_settings names None word next = plain_word command_name word (next None)
word_settings names (Some p) word next = if is_option names p.0 then option_word p.0 p.1 next else None

-- the settings that the words write in their order, where an option may wait for its value
abbrev pub settings_of : List Text → List Text → Option Text → Option (List Setting)
settings_of names [] None = Some []
settings_of names [] (Some name) = None
settings_of names (word ∷ rest) (Some name) = plain_word name word (settings_of names rest None)
settings_of names (word ∷ rest) None = word_settings names (long_of word) word (settings_of names rest)

abbrev pub is_set : Text → List Setting → Bool
is_set name settings = list_any (λ s. bytes_eq s.0 name) settings

-- no name is set twice, counting those that were set before
abbrev pub are_set_once : List Setting → List Setting → Bool
are_set_once before [] = true
are_set_once before (s ∷ rest) = not (is_set s.0 before) && are_set_once (before ++ s ∷ []) rest

abbrev pub value_of : Text → List Setting → Option Text
value_of name settings = option_map (λ s. s.1) (find (λ s. bytes_eq s.0 name) settings)

abbrev pub given_from : List Setting → Given
given_from settings = record {
  command = value_of command_name settings;
  emit = value_of (codes "emit") settings;
  capture = value_of (codes "capture") settings;
  buffer = value_of (codes "buffer") settings;
  seed = value_of (codes "seed") settings;
  mac = value_of (codes "mac") settings;
}

-- a value isn't empty, and doesn't begin with a hyphen
abbrev pub is_value : Text → Bool
is_value [] = false
is_value (b ∷ rest) = not (b == 45)

abbrev pub is_value_if_given : Option Text → Bool
is_value_if_given None = true
is_value_if_given (Some value) = is_value value

abbrev pub have_values : Given → Bool
have_values g =
    is_value_if_given g.command && (is_value_if_given g.emit && (is_value_if_given g.capture && (is_value_if_given g.buffer
    && (is_value_if_given g.seed && is_value_if_given g.mac))))

-- each name once, and a command; what each stands for is a value
abbrev pub is_line : List Setting → Bool
is_line settings = are_set_once [] settings && (is_set command_name settings && have_values (given_from settings))

abbrev pub settings_task : List Setting → Option Task
settings_task settings = if is_line settings then task_of (given_from settings) else None

-- what the words ask for, by the grammar
abbrev pub grammar_task : List Text → Option Task
grammar_task words = if list_all is_word words then option_and_then settings_task (settings_of option_names words None) else None
