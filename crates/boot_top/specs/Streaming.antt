-- How far an input was read as a capture, and what a tap heard of it; how far one was read as a text.
use Rattle.std.specs.Prelude.{◌≡◌, ◌⊎◌, ℕ, List, []}
use Rattle.efi_base.specs.declared.plain.Record.{Record}
use Rattle.wire_pcap.specs.Reading.{Reading, HasRead, HasStopped}
use Rattle.wire_pcap.specs.declared.fault.CapFault.TheVariants.{BadAt}
use Rattle.session_text.specs.Reading.{HasRead as HasReadDocument}
use Rattle.session_text.specs.Sessions.{session_of}
use Rattle.script_text.specs.Reading.{HasRead as HasReadSteps}
use Rattle.script_text.specs.Scripts.{script_of}
use Rattle.tap_core.specs.declared.tapping.Tap.{Tap}
use Rattle.tap_core.specs.Tapping.{HasHeard}
use Rattle.boot_top.specs.Texts.{IsRefusedAlready}
use Rattle.boot_top.specs.declared.document.DocumentCheck.{DocumentCheck}
use Rattle.boot_top.specs.declared.script.ScriptRun.{ScriptRun}
use Rattle.boot_top.specs.declared.watching.Watching.{Watching}

-- the reader was fed these octets, and the tap heard all records that are in them
pub record HearsAll (most : ℕ) (fed : List ℕ) (reader : Reading) (tap : Tap) : Type 0 where
  pub given : List Record
  pub read : HasRead fed given reader
  pub all : reader.ready ≡ []
  pub heard : HasHeard most given tap

-- the reader told that these octets are no capture
pub record IsStopped (fed : List ℕ) (reader : Reading) : Type 0 where
  pub given : List Record
  pub place : ℕ
  pub stopped : HasStopped fed given reader (BadAt place)

abbrev pub HasWatched : ℕ → List ℕ → Watching → Type 0
HasWatched most fed w = HearsAll most fed w.reader w.tap ⊎ IsStopped fed w.reader

-- these octets were fed, and read as far as they go on to a document, or to a script
abbrev pub HasReadSession : List ℕ → DocumentCheck → Type 0
HasReadSession fed check = HasReadDocument fed check.reader ⊎ IsRefusedAlready session_of fed check.reader.fault

abbrev pub HasReadScript : List ℕ → ScriptRun → Type 0
HasReadScript fed run = HasReadSteps fed run.reader ⊎ IsRefusedAlready script_of fed run.reader.fault
