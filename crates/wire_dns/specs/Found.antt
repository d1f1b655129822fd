-- The address of a name, and the name of an address, by an answer (RFC 1034, section 3.6.2). Names are compared without case
-- (RFC 4343).
use Rattle.std.specs.Prelude.{ℕ, zero, suc, ◌==◌, ◌&&◌, Bool, not, List, [], ◌∷◌, Option, Some, None, unwrap_or, if◌then◌else◌}
use Rattle.std.specs.Option.{option_map, option_and_then, option_or}
use Rattle.std.specs.Str.{str_eq_ignore_ascii_case}
use Rattle.efi_base.specs.Addresses.{is_unicast}
use Rattle.wire_dns.specs.declared.found.Found.{Found}
use Rattle.wire_dns.specs.declared.found.Found.TheVariants.{At, NameError, NoAddress}
use Rattle.wire_dns.specs.declared.found.FoundName.{FoundName}
use Rattle.wire_dns.specs.declared.found.FoundName.TheVariants.{Named, NameError as CodeError, NoName}
use Rattle.wire_dns.specs.declared.found.TimedAddress.{TimedAddress}
use Rattle.wire_dns.specs.declared.message.Query.{Query}
use Rattle.wire_dns.specs.declared.row.Row.{Row}
use Rattle.wire_dns.specs.declared.row.RowValue.{RowValue}
use Rattle.wire_dns.specs.declared.row.RowValue.TheVariants.{At as Address, Alias, Pointer}
use Rattle.wire_dns.specs.Messages.{Message, answer_of}

-- the first answer that the function has for one of these
abbrev pub first_of : {A : Type 0} → (Row → Option A) → List Row → Option A
first_of f [] = None
first_of f (row ∷ rows) = option_or (f row) (first_of f rows)

-- what a row says: of which name its owner is an alias, which unicast address it has, or to which name it points
abbrev pub alias_in : Row → RowValue → Option (List ℕ)
alias_in row (Address ip) = None
alias_in row (Alias next) = Some next
alias_in row (Pointer name) = None

abbrev pub address_in : Row → RowValue → Option TimedAddress
address_in row (Address ip) = if is_unicast ip.0 then Some (record { ip = ip; secs = row.secs }) else None
address_in row (Alias next) = None
address_in row (Pointer name) = None

abbrev pub pointer_in : Row → RowValue → Option (List ℕ)
pointer_in row (Address ip) = None
pointer_in row (Alias next) = None
pointer_in row (Pointer name) = Some name

-- the same, where the row is of this name
abbrev pub said_by : {A : Type 0} → (Row → RowValue → Option A) → List ℕ → Row → Option A
said_by say name row = if str_eq_ignore_ascii_case row.name name then say row row.value else None

-- what the first of these rows says of the name
abbrev pub of_name : {A : Type 0} → (Row → RowValue → Option A) → List ℕ → List Row → Option A
of_name say name rows = first_of (said_by say name) rows

-- the name reached by at most so many steps from a name to that of which it is an alias
unfoldable pub reached : ℕ → List Row → List ℕ → List ℕ
reached zero rows name = name
reached (suc steps) rows name = unwrap_or (option_map (λ next. reached steps rows next) (of_name alias_in name rows)) name

-- the most steps
abbrev pub most_steps : ℕ
most_steps = 8

-- the first unicast address of the name reached, with its seconds: none where the answer has a code, or is cut
unfoldable pub timed_address : Message → List ℕ → Option TimedAddress
timed_address m name = if m.code == 0 && not m.tc then of_name address_in (reached most_steps m.rows name) m.rows else None

abbrev pub found_in : Option TimedAddress → Found
found_in None = NoAddress
found_in (Some found) = At found.ip

-- the address of the name
abbrev pub address_of : Message → List ℕ → Found
address_of m name = if m.code == 0 then found_in (timed_address m name) else NameError m.code

-- the first name to which the name reached points
unfoldable pub pointed_name : Message → List ℕ → Option (List ℕ)
pointed_name m name = if m.code == 0 && not m.tc then of_name pointer_in (reached most_steps m.rows name) m.rows else None

abbrev pub name_in : Option (List ℕ) → FoundName
name_in None = NoName
name_in (Some name) = Named name

abbrev pub name_of : Message → List ℕ → FoundName
name_of m name = if m.code == 0 then name_in (pointed_name m name) else CodeError m.code

-- the answer has the query's id and its question
abbrev pub is_answer_to : Message → Query → Bool
is_answer_to m q = m.id == q.id && (m.kind == q.kind && str_eq_ignore_ascii_case m.name q.name)

-- what the octets say to the query, if they are an answer to it
abbrev pub said_to : {A : Type 0} → (Message → List ℕ → A) → List ℕ → Query → Option A
said_to say octets q = option_and_then (λ m. if is_answer_to m q then Some (say m q.name) else None) (answer_of octets)
