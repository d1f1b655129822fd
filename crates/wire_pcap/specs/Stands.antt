-- How far a call of the reader went in the octets at hand.
use Rattle.std.specs.Prelude.{◌≡◌, ◌⊎◌, ℕ, ◌+◌, ◌<◌, ◌≤◌, List, length, take, drop, Some, None}
use Rattle.efi_base.specs.declared.plain.Record.{Record}
use Rattle.wire_pcap.specs.Grammar.{Form, IsHeader}
use Rattle.wire_pcap.specs.Marks.{HasMarks}
use Rattle.wire_pcap.specs.Next.{MadeReady, StopsFrom}
use Rattle.wire_pcap.specs.Reading.{IsPartial}
use Rattle.wire_pcap.specs.declared.fault.CapFault.{CapFault}
use Rattle.wire_pcap.specs.declared.fault.CapFault.TheVariants.{BadAt, OutOfResources}
use Rattle.wire_pcap.specs.declared.stage.Stage.{Stage}
use Rattle.wire_pcap.specs.declared.stage.Reached.{Reached}

-- from a place on the octets are records up to less than a whole one
pub record ReadsFrom (form : Form) (bytes : List ℕ) (start : ℕ) (from : Stage) (to : Reached) (before after : List Record) : Type 0 where
  pub made : MadeReady form bytes (record { at = start; clock = from.clock }) (record { at = to.at; clock = to.stage.clock }) before after
  pub partial : IsPartial form.order (drop to.at bytes)
  pub form_is : to.stage.form ≡ Some form
  pub place_is : to.stage.place ≡ from.place + to.at

-- the header isn't whole, and nothing was read
pub record Waits (bytes : List ℕ) (from : Stage) (to : Reached) (before after : List Record) : Type 0 where
  pub early : from.form ≡ None
  pub form : Form
  pub marks : HasMarks form bytes
  pub short : length bytes < 24
  pub still : to ≡ record { stage = from; at = 0 }
  pub same : after ≡ before

-- a header was read at the front, and then records
pub record ReadsHeader (bytes : List ℕ) (from : Stage) (to : Reached) (before after : List Record) : Type 0 where
  pub early : from.form ≡ None
  pub form : Form
  pub whole : 24 ≤ length bytes
  pub header : IsHeader form (take 24 bytes)
  pub reads : ReadsFrom form bytes 24 from to before after

-- records were read
pub record ReadsMore (bytes : List ℕ) (from : Stage) (to : Reached) (before after : List Record) : Type 0 where
  pub form : Form
  pub known : from.form ≡ Some form
  pub reads : ReadsFrom form bytes 0 from to before after

abbrev pub GoesOn : List ℕ → Stage → Reached → List Record → List Record → Type 0
GoesOn bytes from to before after =
    Waits bytes from to before after ⊎ (ReadsHeader bytes from to before after ⊎ ReadsMore bytes from to before after)

-- the same, where these octets are left
pub record GoesOnTo (bytes : List ℕ) (from to : Stage) (left : List ℕ) (before after : List Record) : Type 0 where
  pub at : ℕ
  pub left_is : left ≡ drop at bytes
  pub goes_on : GoesOn bytes from (record { stage = to; at = at }) before after

-- the header is wrong
pub record StopsAtHeader (bytes : List ℕ) (from : Stage) (e : CapFault) (before after : List Record) : Type 0 where
  pub early : from.form ≡ None
  pub wrong : (form : Form) → HasMarks form bytes → ⊥
  pub told : e ≡ BadAt 0
  pub same : after ≡ before

-- a header was read at the front, and then records up to where reading stops
pub record StopsBehindHeader (bytes : List ℕ) (from : Stage) (e : CapFault) (before after : List Record) : Type 0 where
  pub early : from.form ≡ None
  pub form : Form
  pub whole : 24 ≤ length bytes
  pub header : IsHeader form (take 24 bytes)
  pub stops : StopsFrom form bytes from.place (record { at = 24; clock = from.clock }) e before after

-- records were read up to where reading stops
pub record StopsLater (bytes : List ℕ) (from : Stage) (e : CapFault) (before after : List Record) : Type 0 where
  pub form : Form
  pub known : from.form ≡ Some form
  pub stops : StopsFrom form bytes from.place (record { at = 0; clock = from.clock }) e before after

-- there is no room for the octets, and none were read
pub record HasNoRoom (e : CapFault) (before after : List Record) : Type 0 where
  pub told : e ≡ OutOfResources
  pub same : after ≡ before

-- why reading stopped, and how far it went
abbrev pub Stops : List ℕ → Stage → CapFault → List Record → List Record → Type 0
Stops bytes from e before after = StopsAtHeader bytes from e before after
    ⊎ (StopsBehindHeader bytes from e before after ⊎ (StopsLater bytes from e before after ⊎ HasNoRoom e before after))
