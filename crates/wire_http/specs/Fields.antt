-- What the fields of a final head say: of its body coding (RFC 9110, section 8.4; RFC 9112, section 6.1) and framing
-- (RFC 9112, section 6.3).
use Rattle.std.specs.Prelude.{ℕ, Bool, true, false, ◌&&◌, ◌||◌, ◌==◌, not, nat_le, List, [], ◌∷◌, length, map, filter, codes, Option, Some, None, if◌then◌else◌}
use Rattle.std.specs.List.{flat_map, list_all}
use Rattle.std.specs.Option.{option_and_then, option_map_or}
use Rattle.std.specs.Char.{is_ascii_digit, to_ascii_lowercase}
use Rattle.std.specs.Str.{bytes_eq}
use Rattle.std.specs.Str.Parse.{digits_value}
use Rattle.httparse.specs.Grammar.{trim_ows}
use Rattle.wire_http.specs.declared.head.Framing.{Framing}
use Rattle.wire_http.specs.declared.head.Framing.TheVariants.{Empty, Length, Chunked, Close, BadLength}
use Rattle.efi_base.specs.declared.response.CodingField.{CodingField}
use Rattle.efi_base.specs.declared.response.CodingField.TheVariants.{Content, Transfer}
use Rattle.efi_base.specs.HostNames.{grow}

-- a field: its name, and its value without the blanks around it
abbrev pub Pair : Type 0
Pair = List ℕ × List ℕ

-- the same text, without case
abbrev pub is_same : List ℕ → List ℕ → Bool
is_same a b = bytes_eq (map to_ascii_lowercase a) (map to_ascii_lowercase b)

-- the values of the fields of this name
abbrev pub values : List ℕ → List Pair → List (List ℕ)
values name fields = map (λ f. f.1) (filter (λ f. is_same f.0 name) fields)

-- there is one value, and it is this word
abbrev pub is_one : List ℕ → List (List ℕ) → Bool
is_one word [] = false
is_one word (v ∷ []) = is_same v word
is_one word (v ∷ w ∷ vs) = false

-- there is no value, or one that is this word
abbrev pub is_none_or_one : List ℕ → List (List ℕ) → Bool
is_none_or_one word [] = true
is_none_or_one word (v ∷ vs) = is_one word (v ∷ vs)

abbrev pub content_codings : List Pair → List (List ℕ)
content_codings fields = values (codes "content-encoding") fields

abbrev pub transfer_codings : List Pair → List (List ℕ)
transfer_codings fields = values (codes "transfer-encoding") fields

abbrev pub content_lengths : List Pair → List (List ℕ)
content_lengths fields = values (codes "content-length") fields

-- where the resource is that was asked for (RFC 9110, section 10.2.2)
abbrev pub locations : List Pair → List (List ℕ)
locations fields = values (codes "location") fields

-- a coding that isn't undone here: a content coding besides one `identity`, or a transfer coding besides one `chunked`
abbrev pub coding_of : List Pair → Option CodingField
coding_of fields =
    if not (is_none_or_one (codes "identity") (content_codings fields)) then Some Content
    else if not (is_none_or_one (codes "chunked") (transfer_codings fields)) then Some Transfer
    else None

-- the parts between commas
abbrev pub parts : List ℕ → List (List ℕ)
parts [] = [] ∷ []
parts (b ∷ bytes) = if b == 44 then [] ∷ parts bytes else grow b (parts bytes)

-- the elements of a comma list, without the blanks around each
abbrev pub elements : List ℕ → List (List ℕ)
elements value = map trim_ows (parts value)

-- the number that 1 to 19 digits write
abbrev pub length_number : List ℕ → Option ℕ
length_number text =
    if nat_le 1 (length text) && (nat_le (length text) 19 && list_all is_ascii_digit text) then Some (digits_value 10 text) else None

-- the text writes this number
abbrev pub writes : ℕ → List ℕ → Bool
writes n text = option_map_or (λ m. m == n) (length_number text) false

-- the number that all of the texts write
abbrev pub agreed_number : List (List ℕ) → Option ℕ
agreed_number [] = None
agreed_number (text ∷ texts) = option_and_then (λ n. if list_all (writes n) texts then Some n else None) (length_number text)

-- a stated length, or a bad one
abbrev pub length_framing : Option ℕ → Framing
length_framing None = BadLength
length_framing (Some n) = Length n

-- what the values of Content-Length say: nothing, so the body goes on until the stream's end, or a length
abbrev pub framing_by_lengths : List (List ℕ) → Framing
framing_by_lengths [] = Close
framing_by_lengths (v ∷ vs) = length_framing (agreed_number (flat_map elements (v ∷ vs)))

-- a status whose responses have no body
abbrev pub has_no_body : ℕ → Bool
has_no_body status = status == 101 || (status == 204 || status == 304)

-- how the body of a final head is framed
abbrev pub framing_of : ℕ → List Pair → Framing
framing_of status fields =
    if has_no_body status then Empty
    else if is_one (codes "chunked") (transfer_codings fields) then Chunked
    else framing_by_lengths (content_lengths fields)
