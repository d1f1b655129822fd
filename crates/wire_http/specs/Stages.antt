-- What is kept of a body between two octets, and how an octet changes it. What this means is told by the grammar: the
-- contracts of a reader speak of the whole list of octets read.
use Rattle.std.specs.Prelude.{◌≡◌, ℕ, ◌+◌, ◌-◌, ◌*◌, ◌≤◌, ◌==◌, Bool, true, false, not, ◌&&◌, ⊤, nat_le, List, [], ◌∷◌, Option, Some, None, if◌then◌else◌}
use Rattle.std.specs.Char.{is_ascii_hexdigit, digit_value}
use Rattle.httparse.specs.Grammar.{is_ows, is_token_byte, is_value_byte}
use Rattle.wire_http.specs.declared.head.Framing.{Framing}
use Rattle.wire_http.specs.declared.head.Framing.TheVariants as framing
use Rattle.efi_base.specs.declared.response.Part.TheVariants as part
use Rattle.wire_http.specs.declared.chunk_line.LinePlace.{LinePlace}
use Rattle.wire_http.specs.declared.chunk_line.LinePlace.TheVariants as line
use Rattle.wire_http.specs.declared.trailer.FieldPlace.{FieldPlace}
use Rattle.wire_http.specs.declared.trailer.FieldPlace.TheVariants as field
use Rattle.wire_http.specs.declared.stage.Stage.{Stage}
use Rattle.wire_http.specs.declared.stage.Stage.TheVariants.{Done, Bad, Left, UntilEnd, Line, Octets, Return, Feed, Trailer}

-- ---- chunk lines

-- the place behind an octet that follows the digits or their blanks
abbrev pub after_size : ℕ → Option LinePlace
after_size b =
    if is_ows b then Some line.Pad else if b == 59 then Some line.Extension else if b == 13 then Some line.Return else None

-- the place behind one more octet of a chunk line
abbrev pub next_place : LinePlace → ℕ → Option LinePlace
next_place line.Start b = if is_ascii_hexdigit b then Some line.Size else None
next_place line.Size b = if is_ascii_hexdigit b then Some line.Size else after_size b
next_place line.Pad b = after_size b
next_place line.Extension b = if b == 13 then Some line.Return else if b == 10 then None else Some line.Extension
next_place line.Return b = None

-- the size behind one more octet, which may be a digit
abbrev pub with_digit : ℕ → ℕ → ℕ
with_digit size b = if is_ascii_hexdigit b then size * 16 + digit_value b else size

-- the size behind one more octet
abbrev pub next_size : LinePlace → ℕ → ℕ → ℕ
next_size line.Start size b = with_digit size b
next_size line.Size size b = with_digit size b
next_size line.Pad size b = size
next_size line.Extension size b = size
next_size line.Return size b = size

-- the octet ends the line
abbrev pub ends_line : LinePlace → ℕ → Bool
ends_line line.Start b = false
ends_line line.Size b = false
ends_line line.Pad b = false
ends_line line.Extension b = false
ends_line line.Return b = b == 10

-- the fewest octets that a line still needs
abbrev pub least_line : LinePlace → ℕ
least_line line.Start = 3
least_line line.Size = 2
least_line line.Pad = 2
least_line line.Extension = 2
least_line line.Return = 1

-- the digits that an unfinished size has
abbrev pub digits_at : LinePlace → ℕ → ℕ
digits_at line.Start len = 0
digits_at line.Size len = len
digits_at line.Pad len = 0
digits_at line.Extension len = 0
digits_at line.Return len = 0

-- at most 256 octets, a size of at most 2^31, and 16 digits
abbrev pub fits_line : LinePlace → ℕ → ℕ → Bool
fits_line place size len =
    nat_le (len + least_line place) 256 && (nat_le size 2147483648 && nat_le (digits_at place len) 16)

-- ---- trailers

-- the place behind one more octet of a trailer
abbrev pub next_field_place : FieldPlace → ℕ → Option FieldPlace
next_field_place field.Start b = if b == 13 then Some field.Last else if is_token_byte b then Some field.Name else None
next_field_place field.Name b = if b == 58 then Some field.Value else if is_token_byte b then Some field.Name else None
next_field_place field.Value b =
    if b == 10 then Some field.Start else if b == 13 then Some field.Return else if is_value_byte b then Some field.Value else None
next_field_place field.Return b = if b == 10 then Some field.Start else None
next_field_place field.Last b = None

-- the octet ends the trailer
abbrev pub ends_trailer : FieldPlace → ℕ → Bool
ends_trailer field.Start b = b == 10
ends_trailer field.Name b = false
ends_trailer field.Value b = false
ends_trailer field.Return b = false
ends_trailer field.Last b = b == 10

-- the fields that have begun, behind one more octet
abbrev pub next_fields : FieldPlace → ℕ → ℕ → ℕ
next_fields field.Start fields b = if b == 13 then fields else fields + 1
next_fields field.Name fields b = fields
next_fields field.Value fields b = fields
next_fields field.Return fields b = fields
next_fields field.Last fields b = fields

-- the fewest octets that a trailer still needs
abbrev pub least_trailer : FieldPlace → ℕ
least_trailer field.Start = 1
least_trailer field.Name = 3
least_trailer field.Value = 2
least_trailer field.Return = 2
least_trailer field.Last = 1

-- at most 16,384 octets, and 64 fields
abbrev pub fits_trailer : FieldPlace → ℕ → ℕ → Bool
fits_trailer place fields len = nat_le (len + least_trailer place) 16384 && nat_le fields 64

-- ---- stages

-- so many octets are left of a body with a length
abbrev pub left_stage : ℕ → Stage
left_stage n = if n == 0 then Done else Left n

-- so many octets are left of a chunk
abbrev pub octets_stage : ℕ → Stage
octets_stage n = if n == 0 then Return else Octets n

-- a chunk line of this size has ended
abbrev pub line_done : ℕ → Stage
line_done size = if size == 0 then Trailer field.Start 0 0 else Octets size

-- a chunk line goes on, within its limits
abbrev pub kept_line : Option LinePlace → ℕ → ℕ → Stage
kept_line None size len = Bad part.Chunk
kept_line (Some place) size len = if fits_line place size len then Line place size len else Bad part.Chunk

-- a trailer goes on, within its limits
abbrev pub kept_trailer : Option FieldPlace → ℕ → ℕ → Stage
kept_trailer None fields len = Bad part.Trailer
kept_trailer (Some place) fields len =
    if fits_trailer place fields len then Trailer place fields len else Bad part.Trailer

abbrev pub line_step : LinePlace → ℕ → ℕ → ℕ → Stage
line_step place size len b =
    if ends_line place b then line_done size else kept_line (next_place place b) (next_size place size b) (len + 1)

abbrev pub trailer_step : FieldPlace → ℕ → ℕ → ℕ → Stage
trailer_step place fields len b =
    if ends_trailer place b then Done else kept_trailer (next_field_place place b) (next_fields place fields b) (len + 1)

-- the stage behind one more octet
abbrev pub step : Stage → ℕ → Stage
step Done b = Done
step (Bad p) b = Bad p
step (Left n) b = left_stage (n - 1)
step UntilEnd b = UntilEnd
step (Line place size len) b = line_step place size len b
step (Octets n) b = octets_stage (n - 1)
step Return b = if b == 13 then Feed else Bad part.Chunk
step Feed b = if b == 10 then Line line.Start 0 0 else Bad part.Chunk
step (Trailer place fields len) b = trailer_step place fields len b

-- the next octet is one of the body
abbrev pub wants_octets : Stage → Bool
wants_octets Done = false
wants_octets (Bad p) = false
wants_octets (Left n) = true
wants_octets UntilEnd = true
wants_octets (Line place size len) = false
wants_octets (Octets n) = true
wants_octets Return = false
wants_octets Feed = false
wants_octets (Trailer place fields len) = false

-- puts an octet of the body in front
abbrev pub put_front : Bool → ℕ → List ℕ × Stage → List ℕ × Stage
put_front true b walked = (b ∷ walked.0, walked.1)
put_front false b walked = walked

-- the octets of the body among these, and the stage behind them
abbrev pub walk : Stage → List ℕ → List ℕ × Stage
walk stage [] = ([], stage)
walk stage (b ∷ bytes) = put_front (wants_octets stage) b (walk (step stage b) bytes)

-- the stage in front of a body
abbrev pub start : Framing → Stage
start framing.Empty = Done
start (framing.Length n) = left_stage n
start framing.Chunked = Line line.Start 0 0
start framing.Close = UntilEnd
start framing.BadLength = Bad part.Length

-- nothing more is read
abbrev pub is_ended : Stage → Bool
is_ended Done = true
is_ended (Bad p) = true
is_ended (Left n) = false
is_ended UntilEnd = false
is_ended (Line place size len) = false
is_ended (Octets n) = false
is_ended Return = false
is_ended Feed = false
is_ended (Trailer place fields len) = false

-- the next octets of the body are so many at most
abbrev pub allows : Stage → ℕ → Type 0
allows Done count = count ≡ 0
allows (Bad p) count = count ≡ 0
allows (Left n) count = count ≤ n
allows UntilEnd count = ⊤
allows (Line place size len) count = count ≡ 0
allows (Octets n) count = count ≤ n
allows Return count = count ≡ 0
allows Feed count = count ≡ 0
allows (Trailer place fields len) count = count ≡ 0

-- the stage behind so many octets of the body
abbrev pub after_run : Stage → ℕ → Stage
after_run Done count = Done
after_run (Bad p) count = Bad p
after_run (Left n) count = left_stage (n - count)
after_run UntilEnd count = UntilEnd
after_run (Line place size len) count = Line place size len
after_run (Octets n) count = octets_stage (n - count)
after_run Return count = Return
after_run Feed count = Feed
after_run (Trailer place fields len) count = Trailer place fields len

-- octets of the body are next, and at least one
abbrev pub has_octets : Stage → Bool
has_octets Done = false
has_octets (Bad p) = false
has_octets (Left n) = not (n == 0)
has_octets UntilEnd = true
has_octets (Line place size len) = false
has_octets (Octets n) = not (n == 0)
has_octets Return = false
has_octets Feed = false
has_octets (Trailer place fields len) = false
