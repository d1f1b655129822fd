-- Command lines: the words after the program's name.
use Rattle.std.specs.Prelude.{◌≡◌, ◌⊎◌, Bool, ◌&&◌, not, List, bytes_eq, codes, Option, Some, None, Result, Ok, Err, if◌then◌else◌}
use Rattle.std.specs.List.{list_all}
use Rattle.clap.specs.Words.{Row, Text, first_of, first_value, found_of, fault_of, matches_of}
use Rattle.clap.specs.Walk.{is_empty}
use Rattle.clap.specs.declared.parser.matches.ArgMatches.{ArgMatches}
use Rattle.boot_words.specs.declared.task.Task.{Task}
use Rattle.boot_words.specs.declared.line.WordsFault.{WordsFault}
use Rattle.boot_words.specs.declared.line.WordsFault.TheVariants.{Bad, OutOfResources}
use Rattle.boot_words.specs.Shape.{program}
use Rattle.boot_words.specs.Tasks.{Given, task_of}

-- a word is neither empty nor hyphens alone of one or two
abbrev pub is_word : Text → Bool
is_word word = not (is_empty word) && (not (bytes_eq word (codes "-")) && not (bytes_eq word (codes "--")))

-- the program's shape takes the words
abbrev pub fits : List Text → Bool
fits words = is_empty (fault_of program words)

-- what stands in rows that were matched
abbrev pub given_in : List Row → Given
given_in rows = record {
  command = first_of (codes "command") rows;
  emit = first_of (codes "emit") rows;
  capture = first_of (codes "capture") rows;
  buffer = first_of (codes "buffer") rows;
  seed = first_of (codes "seed") rows;
  mac = first_of (codes "mac") rows;
}

-- the same of the answer of a parse
abbrev pub given_by : ArgMatches → Given
given_by m = record {
  command = first_value (found_of m) (codes "command");
  emit = first_value (found_of m) (codes "emit");
  capture = first_value (found_of m) (codes "capture");
  buffer = first_value (found_of m) (codes "buffer");
  seed = first_value (found_of m) (codes "seed");
  mac = first_value (found_of m) (codes "mac");
}

-- what the words ask for, where they are a command line
abbrev pub line_task : List Text → Option Task
line_task words = if list_all is_word words && fits words then task_of (given_in (matches_of program words)) else None

-- the answer is what is asked for, or that the words are no command line, or that there was no memory
abbrev pub AnswersLine : Result Task WordsFault → Option Task → Type 0
AnswersLine (Ok task) asked = asked ≡ Some task
AnswersLine (Err fault) asked = (fault ≡ OutOfResources) ⊎ ((fault ≡ Bad) × (asked ≡ None))
