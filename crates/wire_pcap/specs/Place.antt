-- Where octets leave the grammar of captures.
use Rattle.std.specs.Prelude.{◌≡◌, ◌⊎◌, ℕ, ◌+◌, ◌<◌, List, ◌++◌, length}
use Rattle.wire_pcap.specs.Grammar.{Order, Form, IsHeader, Stored, IsStored, record_text, Splits, IsCapture}

-- the octets go on to a capture
pub record IsCaptureFront (bytes : List ℕ) : Type 0 where
  pub form : Form
  pub more : List ℕ
  pub records : List Stored
  pub capture : IsCapture form (bytes ++ more) records

-- however the octets go on, they are no capture
abbrev pub NeverCapture : List ℕ → Type 0
NeverCapture bytes = IsCaptureFront bytes → ⊥

-- no header of this form stands at the front of the octets
abbrev pub HasNoHeader : Form → List ℕ → Type 0
HasNoHeader form bytes = (header rest : List ℕ) → IsHeader form header → bytes ≡ header ++ rest → ⊥

-- no whole record stands at the front of the octets
abbrev pub HasNoRecord : Order → List ℕ → Type 0
HasNoRecord order bytes = (r : Stored) (rest : List ℕ) → IsStored r → bytes ≡ record_text order r ++ rest → ⊥

-- behind the header and some whole records, the octet n begins some that aren't a whole record
pub record IsBadRecord (bytes : List ℕ) (n : ℕ) : Type 0 where
  pub form : Form
  pub records : List Stored
  pub rest : List ℕ
  pub splits : Splits form bytes records rest
  pub some : 0 < length rest
  pub none : HasNoRecord form.order rest
  pub place : n + length rest ≡ length bytes

-- the octet n is the first of a header or a record that is bad or incomplete
abbrev pub IsBadPlace : List ℕ → ℕ → Type 0
IsBadPlace bytes n = ((n ≡ 0) × ((form : Form) → HasNoHeader form bytes)) ⊎ IsBadRecord bytes n

-- the octet n is that octet, and no other is
abbrev pub IsThePlace : List ℕ → ℕ → Type 0
IsThePlace bytes n = IsBadPlace bytes n × ((m : ℕ) → IsBadPlace bytes m → m ≡ n)
