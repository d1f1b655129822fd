-- What was found at the front of octets, and the records that were made of them.
use Rattle.std.specs.Prelude.{◌≡◌, ℕ, ◌+◌, ◌<◌, ◌≤◌, List, ◌++◌, length, drop, ⊤}
use Rattle.std.specs.List.{flat_map, AllByRecursion}
use Rattle.efi_base.specs.declared.plain.Record.{Record}
use Rattle.wire_pcap.specs.Grammar.{Order, Form, Stored, IsStored, record_text, time_of}
use Rattle.wire_pcap.specs.Reading.{IsPartial}
use Rattle.wire_pcap.specs.Steps.{kept_at, record_at, clock_after_all, made_from}
use Rattle.wire_pcap.specs.declared.fault.CapFault.{CapFault}
use Rattle.wire_pcap.specs.declared.fault.CapFault.TheVariants.{BadAt, OutOfResources}
use Rattle.wire_pcap.specs.declared.head.Head.{Head}
use Rattle.wire_pcap.specs.declared.head.Next.{Next}
use Rattle.wire_pcap.specs.declared.head.Next.TheVariants.{Whole, Partial, Over}
use Rattle.wire_pcap.specs.declared.records.Progress.{Progress}

-- the head of a whole record stands at the front of the octets, with all that was kept behind it
pub record IsHead (form : Form) (bytes : List ℕ) (head : Head) : Type 0 where
  pub whole : 16 + head.kept ≤ length bytes
  pub few : head.kept ≤ 262144
  pub kept : head.kept ≡ kept_at form.order bytes
  pub time : head.time ≡ time_of form.resolution (record_at form.order bytes)

-- the record at the front says that more octets were kept than may be
abbrev pub IsOver : Order → List ℕ → Type 0
IsOver order bytes = 262144 < kept_at order bytes

-- what stands at the front of the octets
abbrev pub IsNext : Form → List ℕ → Next → Type 0
IsNext form bytes (Whole head) = IsHead form bytes head
IsNext form bytes Partial = IsPartial form.order bytes
IsNext form bytes Over = IsOver form.order bytes

-- from one place to the other the octets are records, which were made ready
pub record MadeReady (form : Form) (bytes : List ℕ) (from to : Progress) (before after : List Record) : Type 0 where
  pub records : List Stored
  pub each : AllByRecursion IsStored records
  pub onward : from.at ≤ to.at
  pub within : to.at ≤ length bytes
  pub text : drop from.at bytes ≡ flat_map (record_text form.order) records ++ drop to.at bytes
  pub clock : to.clock ≡ clock_after_all form.resolution from.clock records
  pub ready : after ≡ before ++ made_from form.resolution from.clock records

-- Why reading stops at a place of octets that stand behind so many others: for want of memory, or since the record there
-- says that more octets were kept than may be. Its place is told among all octets.
abbrev pub IsCause : Order → List ℕ → ℕ → ℕ → CapFault → Type 0
IsCause order bytes others at OutOfResources = ⊤
IsCause order bytes others at (BadAt n) = (n ≡ others + at) × IsOver order (drop at bytes)

-- from a place on the octets are records, which were made ready, up to where reading stops
pub record StopsFrom (form : Form) (bytes : List ℕ) (others : ℕ) (from : Progress) (e : CapFault) (before after : List Record) : Type 0 where
  pub to : Progress
  pub made : MadeReady form bytes from to before after
  pub cause : IsCause form.order bytes others to.at e
