-- A reader of captures, as others see it.
use Rattle.std.specs.Prelude.{◌≡◌, ◌⊎◌, ℕ, ◌+◌, ◌<◌, ◌≤◌, List, [], ◌∷◌, ◌++◌, length, take, Option, Some, None}
use Rattle.efi_base.specs.declared.plain.Record.{Record}
use Rattle.wire_pcap.specs.Grammar.{Order, Form, IsHeader, Stored, IsStored, record_text, Splits, IsCapture, records_of}
use Rattle.wire_pcap.specs.Place.{IsThePlace, NeverCapture}
use Rattle.wire_pcap.specs.Steps.{new_clock, clock_after_all}
use Rattle.wire_pcap.specs.declared.fault.CapFault.{CapFault}
use Rattle.wire_pcap.specs.declared.fault.CapFault.TheVariants.{BadAt, OutOfResources}
use Rattle.wire_pcap.specs.declared.stage.Stage.{Stage}

-- what is known of the octets that were read, the rest that isn't a whole record, the records that are ready, and the fault
pub record Reading : Type 0 where
  pub stage : Stage
  pub rest : List ℕ
  pub ready : List Record
  pub fault : Option CapFault

-- how many octets it keeps
abbrev pub held : Reading → ℕ
held r = length r.rest

-- nothing was read
abbrev pub new_stage : Stage
new_stage = record { form = None; place = 0; clock = new_clock }

-- less than a whole header, which goes on to one
pub record IsHeaderFront (form : Form) (bytes : List ℕ) : Type 0 where
  pub more : List ℕ
  pub short : length bytes < 24
  pub header : IsHeader form (bytes ++ more)

-- less than a whole record, which goes on to one
pub record IsPartial (order : Order) (bytes : List ℕ) : Type 0 where
  pub more : List ℕ
  pub stored : Stored
  pub some : 0 < length more
  pub is_stored : IsStored stored
  pub text : bytes ++ more ≡ record_text order stored

-- the header isn't whole yet
pub record IsEarly (fed : List ℕ) (given : List Record) (r : Reading) : Type 0 where
  pub form : Form
  pub front : IsHeaderFront form fed
  pub none_given : given ≡ []
  pub none_ready : r.ready ≡ []
  pub rest_is : r.rest ≡ fed
  pub stage_is : r.stage ≡ new_stage

-- the whole records of what was fed are those that were given and those that are ready
pub record IsUnderWay (fed : List ℕ) (given : List Record) (r : Reading) : Type 0 where
  pub form : Form
  pub records : List Stored
  pub splits : Splits form fed records r.rest
  pub partial : IsPartial form.order r.rest
  pub records_are : given ++ r.ready ≡ records_of form.resolution records
  pub form_is : r.stage.form ≡ Some form
  pub place_is : r.stage.place + length r.rest ≡ length fed
  pub clock_is : r.stage.clock ≡ clock_after_all form.resolution new_clock records

-- These octets were fed to the reader, and it gave these records: it told no fault, and keeps of the octets the rest that
-- isn't whole yet.
abbrev pub HasRead : List ℕ → List Record → Reading → Type 0
HasRead fed given r = (r.fault ≡ None) × (IsEarly fed given r ⊎ IsUnderWay fed given r)

-- the reader read on in a piece
abbrev pub Reads : List ℕ → Reading → Reading → Type 0
Reads piece old new = (fed : List ℕ) (given : List Record) → HasRead fed given old → HasRead (fed ++ piece) given new

-- the reader gave a record
abbrev pub Gives : Record → Reading → Reading → Type 0
Gives r old new = (fed : List ℕ) (given : List Record) → HasRead fed given old → HasRead fed (given ++ r ∷ []) new

-- all that was fed is a capture, of which some records were given and the others are ready
pub record IsWhole (fed : List ℕ) (given ready : List Record) : Type 0 where
  pub form : Form
  pub records : List Stored
  pub capture : IsCapture form fed records
  pub records_are : given ++ ready ≡ records_of form.resolution records

-- records stay, and others may come behind them
pub record IsLonger (before after : List Record) : Type 0 where
  pub more : List Record
  pub longer : after ≡ before ++ more

-- why a fault came: for want of memory, or at the first bad place of octets that no others make a capture
abbrev pub IsNewFault : List ℕ → CapFault → Type 0
IsNewFault fed OutOfResources = Unit {0}
IsNewFault fed (BadAt n) = IsThePlace fed n × NeverCapture fed

-- The records that were given and those that are ready are all in front of the octet n: what stands there is a capture
-- of them, or nothing, where not even a header does.
abbrev pub AreInFront : List ℕ → ℕ → List Record → List Record → Type 0
AreInFront fed n given ready = IsWhole (take n fed) given ready ⊎ ((n ≡ 0) × (given ++ ready ≡ []))

-- they are all in front of some octet
pub record AreFirst (fed : List ℕ) (given ready : List Record) : Type 0 where
  pub place : ℕ
  pub within : place ≤ length fed
  pub in_front : AreInFront fed place given ready

-- what there is at a fault: the records in front of the bad place, or for want of memory the first ones
abbrev pub AreLeft : List ℕ → CapFault → List Record → List Record → Type 0
AreLeft fed OutOfResources given ready = AreFirst fed given ready
AreLeft fed (BadAt n) given ready = AreInFront fed n given ready

-- These octets were fed to the reader, before it told this fault and after, and it gave these records. It keeps no octets,
-- and the records in front of the fault that it didn't give are ready.
pub record HasStopped (fed : List ℕ) (given : List Record) (r : Reading) (e : CapFault) : Type 0 where
  pub told : r.fault ≡ Some e
  pub cause : IsNewFault fed e
  pub none_kept : r.rest ≡ []
  pub left : AreLeft fed e given r.ready

-- the reader had stopped, and gave a record
abbrev pub GivesLeft : Record → Reading → Reading → Type 0
GivesLeft r old new =
    (fed : List ℕ) (given : List Record) (e : CapFault) → HasStopped fed given old e → HasStopped fed (given ++ r ∷ []) new e

-- what was fed isn't a capture: the octet n is the first of what isn't whole
pub record IsUnfinished (fed : List ℕ) (e : CapFault) : Type 0 where
  pub place : ℕ
  pub told : e ≡ BadAt place
  pub bad : IsThePlace fed place
  pub none : (form : Form) (records : List Stored) → IsCapture form fed records → ⊥
