-- The command `extract`: what it finds in an input, the capture that it is, read passively, and how the download on it ends;
-- and what it writes for that.
use Rattle.std.specs.Prelude.{◌≡◌, ◌⊎◌, ℕ, ◌≤◌, Bool, true, false, List, [], ◌∷◌, ◌++◌, codes, decimal, length}
use Rattle.efi_base.specs.declared.plain.Record.{Record}
use Rattle.boot_words.specs.declared.task.Emit.{Emit}
use Rattle.boot_words.specs.declared.task.Emit.TheVariants.{Report, Image}
use Rattle.boot_words.specs.declared.task.ExtractTask.{ExtractTask}
use Rattle.doc_text.specs.Reports.{report_text}
use Rattle.wire_pcap.specs.Place.{IsThePlace}
use Rattle.wire_pcap.specs.Reading.{IsWhole as IsWholeCapture}
use Rattle.wire_http.specs.Response.{IsWhole}
use Rattle.tcp_recv.specs.Stream.{front, is_over}
use Rattle.efi_base.specs.declared.load_end.LoadEnd.{LoadEnd}
use Rattle.efi_base.specs.declared.load_end.LoadEnd.TheVariants.{Success}
use Rattle.tap_core.specs.Shows.{Telling, Shows}
use Rattle.boot_top.specs.Reports.{report_of}
use Rattle.boot_top.specs.Running.{Command, reading}

-- the octets are a capture that shows this, with a buffer of so many octets
pub record Extracts (most : ℕ) (bytes : List ℕ) (t : Telling) : Type 0 where
  pub records : List Record
  pub capture : IsWholeCapture bytes [] records
  pub shows : Shows most records t

abbrev pub is_success : LoadEnd → Bool
is_success (Success n) = true
is_success other = false

-- the download ends with success: this is the body of the whole response that the accepted stream holds, and it fits
pub record IsImage (most : ℕ) (t : Telling) (body : List ℕ) : Type 0 where
  pub ended : t.end ≡ Success (length body)
  pub whole : IsWhole (front t.board.kept) (is_over t.board) 200 body
  pub fits : length body ≤ most

-- what is written where the download ends with success
abbrev pub IsOutput : Emit → ℕ → Telling → List ℕ → Type 0
IsOutput Image most t text = IsImage most t text
IsOutput Report most t text = text ≡ report_text (report_of t)

-- what is written where it ends otherwise: there is no image
abbrev pub IsOutputOtherwise : Emit → Telling → List ℕ → Type 0
IsOutputOtherwise Image t text = text ≡ []
IsOutputOtherwise Report t text = text ≡ report_text (report_of t)

-- the octets are a capture whose download ends with success, and this is what the task writes
pub record Succeeded (task : ExtractTask) (bytes text : List ℕ) : Type 0 where
  pub telling : Telling
  pub extracts : Extracts task.buffer bytes telling
  pub succeeded : is_success telling.end ≡ true
  pub output : IsOutput task.emit task.buffer telling text

-- it ends otherwise
pub record EndedOtherwise (task : ExtractTask) (bytes text : List ℕ) : Type 0 where
  pub telling : Telling
  pub extracts : Extracts task.buffer bytes telling
  pub otherwise : is_success telling.end ≡ false
  pub output : IsOutputOtherwise task.emit telling text

-- the octets are no capture, in any form
abbrev pub IsNoCapture : List ℕ → Type 0
IsNoCapture bytes = (records : List Record) → IsWholeCapture bytes [] records → ⊥

-- the octets are no capture, and the octet n is the first of what is bad or incomplete
pub record IsRefused (bytes : List ℕ) (n : ℕ) : Type 0 where
  pub place : IsThePlace bytes n
  pub none : IsNoCapture bytes

-- the line that tells that octet
abbrev pub bad_input_text : ℕ → List ℕ
bad_input_text n = codes "bad input at " ++ (decimal n ++ 10 ∷ [])

abbrev pub IsRefusal : List ℕ → List ℕ → Type 0
IsRefusal bytes text = (n : ℕ) × IsRefused bytes n × (text ≡ bad_input_text n)

-- with this status, this is what the task writes for the octets; it writes no capture
abbrev pub IsExtracted : ExtractTask → List ℕ → ℕ → List ℕ → List ℕ → Type 0
IsExtracted task bytes status text capture = (capture ≡ [])
    × (((status ≡ 0) × Succeeded task bytes text) ⊎ ((status ≡ 1) × EndedOtherwise task bytes text) ⊎ ((status ≡ 3) × IsRefusal bytes text))

-- how the download on the octets ends, or that they are no capture, decides the status
abbrev pub DecidesExtract : ExtractTask → List ℕ → ℕ → Type 0
DecidesExtract task bytes status = ((status ≡ 0) × (t : Telling) × Extracts task.buffer bytes t × (is_success t.end ≡ true))
    ⊎ ((status ≡ 1) × (t : Telling) × Extracts task.buffer bytes t × (is_success t.end ≡ false))
    ⊎ ((status ≡ 3) × IsNoCapture bytes)

abbrev pub is_image : Emit → Bool
is_image Image = true
is_image Report = false

abbrev pub extracting : ExtractTask → Command
extracting task = reading (is_image task.emit) (IsExtracted task) (DecidesExtract task)
