-- A body in chunks (RFC 9112, section 7.1). The grammar of chunk lines and of the trailer is that of the crate that
-- parses them; the limits are this project's.
use Rattle.std.specs.Prelude.{◌≡◌, ℕ, ◌^◌, ◌<◌, ◌≤◌, ◌⊎◌, List, ◌++◌, length, All}
use Rattle.std.specs.List.{flat_map, AllByRecursion}
use Rattle.httparse.specs.Ascii.{crlf_bytes}
use Rattle.httparse.specs.Grammar.{ChunkLine, IsChunkLine, chunk_size, print_chunk_line, Field, IsField, LineEnd, print_section}

-- a chunk line of at most 256 octets, whose size is at most 2^31
pub record IsLine (line : ChunkLine) : Type 0 where
  pub valid : IsChunkLine line
  pub short : length (print_chunk_line line) ≤ 256
  pub size : chunk_size line ≤ 2 ^ 31

-- a chunk: its line, and its octets
pub record Chunk : Type 0 where
  pub line : ChunkLine
  pub bytes : List ℕ

-- it has octets, as many as its line says
pub record IsChunk (c : Chunk) : Type 0 where
  pub line : IsLine c.line
  pub some : 0 < length c.bytes
  pub count : length c.bytes ≡ chunk_size c.line

-- the line, the octets, CR and LF
abbrev pub chunk_text : Chunk → List ℕ
chunk_text c = print_chunk_line c.line ++ (c.bytes ++ crlf_bytes)

-- the octets of the chunks, joined
abbrev pub octets_of : List Chunk → List ℕ
octets_of chunks = flat_map (λ c. c.bytes) chunks

-- chunks stand in front, whose octets joined are the body, and a last chunk line, of size 0, behind them
pub record HasChunks (rest body after : List ℕ) : Type 0 where
  pub chunks : List Chunk
  pub each : AllByRecursion IsChunk chunks
  pub last : ChunkLine
  pub last_valid : IsLine last
  pub last_size : chunk_size last ≡ 0
  pub text : rest ≡ flat_map chunk_text chunks ++ (print_chunk_line last ++ after)
  pub body_is : body ≡ octets_of chunks

-- a trailer of at most 64 fields and 16,384 octets, the empty line at its end counted in
pub record IsTrailer (text : List ℕ) : Type 0 where
  pub fields : List Field
  pub valid : All IsField fields
  pub few : length fields ≤ 64
  pub last : LineEnd
  pub text_is : text ≡ print_section fields last
  pub short : length text ≤ 16384

-- a trailer stands in front
abbrev pub HasTrailer : List ℕ → Type 0
HasTrailer after = (trailer : List ℕ) × (more : List ℕ) × IsTrailer trailer × (after ≡ trailer ++ more)

-- chunks, a last chunk line and a trailer stand in front, and the chunks' octets joined are the body
abbrev pub IsChunked : List ℕ → List ℕ → Type 0
IsChunked rest body = (after : List ℕ) × HasChunks rest body after × HasTrailer after

-- the octets of whole chunks in front
pub record HasWhole (rest octets : List ℕ) : Type 0 where
  pub chunks : List Chunk
  pub each : AllByRecursion IsChunk chunks
  pub more : List ℕ
  pub text : rest ≡ flat_map chunk_text chunks ++ more
  pub octets_are : octets ≡ octets_of chunks

-- the octets of whole chunks in front, and the first octets of a chunk whose line follows
pub record HasPart (rest octets : List ℕ) : Type 0 where
  pub chunks : List Chunk
  pub each : AllByRecursion IsChunk chunks
  pub line : ChunkLine
  pub valid : IsLine line
  pub front : List ℕ
  pub within : length front ≤ chunk_size line
  pub more : List ℕ
  pub text : rest ≡ flat_map chunk_text chunks ++ (print_chunk_line line ++ (front ++ more))
  pub octets_are : octets ≡ octets_of chunks ++ front

-- octets of the body that stand in front
abbrev pub ShowsOctets : List ℕ → List ℕ → Type 0
ShowsOctets rest octets = HasWhole rest octets ⊎ HasPart rest octets

-- the octets of the body that are there: they stand in front, and all others that do are a front of them
pub record IsChunkedSoFar (rest octets : List ℕ) : Type 0 where
  pub shown : ShowsOctets rest octets
  pub most : (other : List ℕ) → ShowsOctets rest other → (later : List ℕ) × (octets ≡ other ++ later)

-- whatever follows, no chunks and last chunk line stand in front
abbrev pub NeverHasChunks : List ℕ → Type 0
NeverHasChunks rest = (more body after : List ℕ) → ¬ (HasChunks (rest ++ more) body after)

-- chunks and a last chunk line stand in front, and whatever follows, no trailer stands behind them
abbrev pub NeverHasTrailer : List ℕ → Type 0
NeverHasTrailer rest =
    (body : List ℕ) × (after : List ℕ) × HasChunks rest body after × ((more : List ℕ) → ¬ (HasTrailer (after ++ more)))
