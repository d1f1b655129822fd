-- What was watched of an input, and what is answered to it.
use Rattle.std.specs.Prelude.{◌≡◌, ◌⊎◌, ⊤, ℕ, List, []}
use Rattle.efi_base.specs.declared.plain.Record.{Record}
use Rattle.boot_words.specs.declared.task.ExtractTask.{ExtractTask}
use Rattle.tap_core.specs.Watching.{IsSeen}
use Rattle.wire_pcap.specs.Reading.{IsWhole}
use Rattle.boot_top.specs.Extract.{Succeeded, EndedOtherwise, IsRefused, IsRefusal}
use Rattle.boot_top.specs.declared.watching.Watched.{Watched}
use Rattle.boot_top.specs.declared.watching.Watched.TheVariants as watched
use Rattle.boot_top.specs.declared.extract.Answer.{Answer}
use Rattle.boot_top.specs.declared.extract.Answer.TheVariants as answer

-- what was watched of the octets of an input, with a buffer of so many octets
abbrev pub IsWatched : ℕ → List ℕ → Watched → Type 0
IsWatched most bytes (watched.Capture seen) = (records : List Record) × IsWhole bytes [] records × IsSeen most records seen
IsWatched most bytes (watched.BadAt n) = IsRefused bytes n

-- what is answered to them: what is written with success, or where the download ends otherwise, or the line that refuses
-- them
abbrev pub IsAnswered : ExtractTask → List ℕ → Answer → Type 0
IsAnswered task bytes (answer.Success text) = Succeeded task bytes text.items
IsAnswered task bytes (answer.Otherwise text) = EndedOtherwise task bytes text.items
IsAnswered task bytes (answer.Refused line) = IsRefusal bytes line.items

-- there is nothing to write where the download ends otherwise
abbrev pub HasNoReport : Answer → Type 0
HasNoReport (answer.Success text) = ⊤
HasNoReport (answer.Otherwise text) = text.items ≡ []
HasNoReport (answer.Refused line) = ⊤

-- what may be written for them
abbrev pub IsAnswerText : ExtractTask → List ℕ → List ℕ → Type 0
IsAnswerText task bytes text = Succeeded task bytes text ⊎ EndedOtherwise task bytes text ⊎ IsRefusal bytes text
