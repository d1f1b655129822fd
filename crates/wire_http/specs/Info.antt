-- What a reader answers of a head.
use Rattle.std.specs.Prelude.{◌≡◌, ◌≢◌, ℕ, ◌+◌, ◌≤◌, List, [], ◌∷◌, length, take, drop, ◌++◌, Option, Some, None, ⊤}
use Rattle.httparse.specs.Grammar.{ResponseHead, print_response, status_code}
use Rattle.wire_http.specs.declared.head.Head.{Head}
use Rattle.wire_http.specs.declared.head.Head.TheVariants.{Whole, More, Bad}
use Rattle.wire_http.specs.declared.head.HeadInfo.{HeadInfo}
use Rattle.wire_http.specs.Fields.{Pair, coding_of, framing_of, locations}
use Rattle.wire_http.specs.Heads.{fields_of, ReadsHead}

-- the status, and what the fields say
pub record IsInfo (info : HeadInfo) (code : ℕ) (fields : List Pair) : Type 0 where
  pub status_is : info.status ≡ code
  pub framing_is : info.framing ≡ framing_of code fields
  pub coding_is : info.coding ≡ coding_of fields

-- there is one value, and it stands in the octets at this place with this length; none is told where there isn't one
abbrev pub IsOneAt : List ℕ → Option (ℕ × ℕ) → List (List ℕ) → Type 0
IsOneAt bytes None vs = length vs ≢ 1
IsOneAt bytes (Some p) vs = (p.0 + p.1 ≤ length bytes) × (vs ≡ take p.1 (drop p.0 bytes) ∷ [])

-- the first n octets are the head, and the info is what it says
pub record HeadIs (bytes : List ℕ) (head : ResponseHead) (info : HeadInfo) (n : ℕ) : Type 0 where
  pub reads : ReadsHead bytes head (drop n bytes)
  pub count : n ≡ length (print_response head)
  pub says : IsInfo info (status_code head) (fields_of head)
  pub location : IsOneAt bytes info.location (locations (fields_of head))

-- P of the info and the head's length, where a whole head was answered
abbrev pub IfWhole : Head → (HeadInfo → ℕ → Type 0) → Type 0
IfWhole (Whole info n) P = P info n
IfWhole More P = ⊤
IfWhole Bad P = ⊤

-- a whole head was answered, with P
abbrev pub IsWholeAnd : Head → (HeadInfo → ℕ → Type 0) → Type 0
IsWholeAnd (Whole info n) P = P info n
IsWholeAnd More P = ⊥
IsWholeAnd Bad P = ⊥

-- no octets can follow that make the front a head
abbrev pub NeverHasHead : List ℕ → Type 0
NeverHasHead bytes = (more : List ℕ) (head : ResponseHead) (rest : List ℕ) → ¬ (ReadsHead (bytes ++ more) head rest)

-- some octets can follow that make the octets a head
abbrev pub MayBecomeHead : List ℕ → Type 0
MayBecomeHead bytes = (more : List ℕ) × (head : ResponseHead) × ReadsHead (bytes ++ more) head []
