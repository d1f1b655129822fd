-- What a command line asks for, and what is answered to it.
use Rattle.std.specs.Prelude.{◌≡◌, ◌⊎◌, ℕ, List, Some}
use Rattle.boot_words.specs.Grammar.{grammar_task}
use Rattle.boot_words.specs.declared.task.ExtractTask.{ExtractTask}
use Rattle.boot_words.specs.declared.task.Task.{Task}
use Rattle.boot_words.specs.declared.task.Task.TheVariants.{Extract, Script, Replay, Boot, Tftp, Make}
use Rattle.boot_top.specs.Extract.{extracting}
use Rattle.boot_top.specs.Parties.{Party, IsUntouched}
use Rattle.boot_top.specs.Running.{Runs}
use Rattle.boot_top.specs.Scripts.{scripting}
use Rattle.boot_top.specs.Texts.{IsEight, IsUnbuilt, following}
use Rattle.session_text.specs.Sessions.{session_of}

-- the words are a command line, and ask for this
abbrev pub AskFor : List (List ℕ) → Task → Type 0
AskFor words task = grammar_task words ≡ Some task

-- they ask to take the image out of a capture
abbrev pub AskToExtract : List (List ℕ) → ExtractTask → Type 0
AskToExtract words task = AskFor words (Extract task)

-- the command isn't built: nothing is read or written
pub record IsNotBuilt {S K P : Type 0} (src : Party S) (out : Party K) (cap : Party P) (status : ℕ) : Type 0 where
  pub answered : (status ≡ 8) ⊎ (status ≡ 6)
  pub source : IsUntouched src
  pub output : IsUntouched out
  pub capture : IsUntouched cap

-- what is answered to a task, with what is read and written, command by command; of `boot` and `tftp` the document is read, and
-- no more
abbrev pub Answers : {S K P : Type 0} → Task → Party S → Party K → Party P → ℕ → Type 0
Answers (Extract t) src out cap status = Runs (extracting t) src out cap status
Answers Script src out cap status = Runs scripting src out cap status
Answers (Replay t) src out cap status = IsNotBuilt src out cap status
Answers (Boot emit) src out cap status = Runs (following session_of IsUnbuilt IsEight) src out cap status
Answers (Tftp emit) src out cap status = Runs (following session_of IsUnbuilt IsEight) src out cap status
Answers (Make t) src out cap status = IsNotBuilt src out cap status
