-- What a walk over the fields of a head has seen so far.
use Rattle.std.specs.Prelude.{◌≡◌, ℕ, ◌≤◌, List, [], ◌∷◌, length, map, if◌then◌else◌}
use Rattle.httparse.specs.declared.spans.HeaderSpan.{HeaderSpan}
use Rattle.httparse.specs.Spans.{span_bytes, header_bytes, IsWithin}
use Rattle.wire_http.specs.declared.fields.Values.{Values}
use Rattle.wire_http.specs.declared.fields.Values.TheVariants.{Nothing, One, Several}
use Rattle.wire_http.specs.declared.head.Framing.{Framing}
use Rattle.wire_http.specs.declared.head.Framing.TheVariants.{Empty, Length, Chunked, Close, BadLength}
use Rattle.wire_http.specs.Fields.{Pair, length_number, length_framing, writes}

-- the fields that the spans cover
abbrev pub fields_at : List ℕ → List HeaderSpan → List Pair
fields_at buf spans = map (header_bytes buf) spans

-- these are the values: none, the one that the span covers, or several
abbrev pub ShowsValues : List ℕ → Values → List (List ℕ) → Type 0
ShowsValues buf Nothing vs = vs ≡ []
ShowsValues buf (One s) vs = IsWithin (length buf) s × (vs ≡ span_bytes buf s ∷ [])
ShowsValues buf Several vs = 2 ≤ length vs

-- what the texts so far and one more say of the length: `Close` where there was none so far
abbrev pub joined : Framing → List ℕ → Framing
joined Close text = length_framing (length_number text)
joined (Length n) text = if writes n text then Length n else BadLength
joined Empty text = BadLength
joined Chunked text = BadLength
joined BadLength text = BadLength

-- the same of several more
abbrev pub joined_all : Framing → List (List ℕ) → Framing
joined_all so_far [] = so_far
joined_all so_far (text ∷ texts) = joined_all (joined so_far text) texts
