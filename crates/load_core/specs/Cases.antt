-- How a stream ends a load: the first case that it meets.
use Rattle.std.specs.Prelude.{◌≡◌, ◌≢◌, ℕ, ◌<◌, ◌≤◌, Bool, List, length, Option, Some, None, IsTrue}
use Rattle.httparse.specs.Grammar.{ResponseHead, status_code}
use Rattle.wire_http.specs.declared.head.Framing.{Framing}
use Rattle.wire_http.specs.declared.head.Framing.TheVariants.{Empty, Length, Chunked, Close, BadLength}
use Rattle.wire_http.specs.Body.{HoldsSoFar}
use Rattle.wire_http.specs.Fields.{coding_of, framing_of}
use Rattle.wire_http.specs.Heads.{fields_of, HasHeads}
use Rattle.wire_http.specs.Response.{IsWhole, IsBad}
use Rattle.efi_base.specs.declared.load_end.LoadEnd.{LoadEnd}
use Rattle.efi_base.specs.declared.load_end.LoadEnd.TheVariants.{Success, BadResponse, HttpStatus, Coding, BufferTooSmall, Truncated, Reset}

-- the final head is whole, with P of it and of what follows it
abbrev pub HasFinal : List ℕ → (ResponseHead → List ℕ → Type 0) → Type 0
HasFinal stream P =
    (interim : List ResponseHead) × (final : ResponseHead) × (rest : List ℕ) × HasHeads stream interim final rest × P final rest

-- the length of the body's octets that are there
abbrev pub IsLengthSoFar : Framing → List ℕ → ℕ → Type 0
IsLengthSoFar framing rest n = (octets : List ℕ) × HoldsSoFar framing rest octets × (n ≡ length octets)

-- the length that the framing states, or that of the octets that are there
abbrev pub IsLength : Framing → List ℕ → ℕ → Type 0
IsLength Empty rest n = IsLengthSoFar Empty rest n
IsLength (Length stated) rest n = n ≡ stated
IsLength Chunked rest n = IsLengthSoFar Chunked rest n
IsLength Close rest n = IsLengthSoFar Close rest n
IsLength BadLength rest n = IsLengthSoFar BadLength rest n

-- the stream meets the case, with a buffer of so many octets; fin says that the stream is at its end, and reset that the
-- peer reset the connection. No stream meets another case of a load's end.
abbrev pub Meets : ℕ → List ℕ → Bool → Bool → LoadEnd → Type 0
Meets most stream fin reset (Success n) =
    (body : List ℕ) × IsWhole stream fin 200 body × (n ≡ length body) × (length body ≤ most)
Meets most stream fin reset (BadResponse part) = IsBad stream part
Meets most stream fin reset (HttpStatus s) = HasFinal stream (λ head rest. (s ≡ status_code head) × (s ≢ 200))
Meets most stream fin reset (Coding field) =
    HasFinal stream (λ head rest. (status_code head ≡ 200) × (coding_of (fields_of head) ≡ Some field))
Meets most stream fin reset (BufferTooSmall n) =
    HasFinal stream (λ head rest. (status_code head ≡ 200) × (coding_of (fields_of head) ≡ None)
    × IsLength (framing_of 200 (fields_of head)) rest n × (most < n))
Meets most stream fin reset (Truncated n) = IsTrue fin × (n ≡ length stream)
Meets most stream fin reset Reset = IsTrue reset
Meets most stream fin reset other = ⊥

-- the order in which the cases are looked at
abbrev pub order : LoadEnd → ℕ
order (Success n) = 0
order (BadResponse part) = 1
order (HttpStatus s) = 2
order (Coding field) = 3
order (BufferTooSmall n) = 4
order (Truncated n) = 5
order Reset = 6
order other = 7

-- the answer is the first case that is met, and None where none is
abbrev pub IsFirstCase : ℕ → List ℕ → Bool → Bool → Option LoadEnd → Type 0
IsFirstCase most stream fin reset None = (case : LoadEnd) → ¬ (Meets most stream fin reset case)
IsFirstCase most stream fin reset (Some end) =
    Meets most stream fin reset end × ((case : LoadEnd) → Meets most stream fin reset case → order end ≤ order case)

-- the final head has status 200 and no coding, and these octets of its body are there
abbrev pub HasLoadSoFar : List ℕ → List ℕ → Type 0
HasLoadSoFar stream octets =
    HasFinal stream (λ head rest. (status_code head ≡ 200) × (coding_of (fields_of head) ≡ None)
    × HoldsSoFar (framing_of 200 (fields_of head)) rest octets)

-- the stream has no body of a load: its final head isn't whole, or has another status or a coding
abbrev pub HasNoLoad : List ℕ → Type 0
HasNoLoad stream = (octets : List ℕ) → ¬ (HasLoadSoFar stream octets)
