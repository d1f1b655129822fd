-- What the octets behind a final head hold of its body, by its framing (RFC 9112, section 6.3).
use Rattle.std.specs.Prelude.{◌≡◌, ℕ, ◌≤◌, Bool, true, List, [], length, take}
use Rattle.wire_http.specs.declared.head.Framing.{Framing}
use Rattle.wire_http.specs.declared.head.Framing.TheVariants.{Empty, Length, Chunked, Close, BadLength}
use Rattle.efi_base.specs.declared.response.Part.{Part}
use Rattle.efi_base.specs.declared.response.Part.TheVariants as part
use Rattle.wire_http.specs.Chunked.{IsChunked, IsChunkedSoFar, NeverHasChunks, NeverHasTrailer}

-- the rest of the stream holds this body whole, by its framing; fin says that the stream is at its end
abbrev pub HoldsBody : Framing → Bool → List ℕ → List ℕ → Type 0
HoldsBody Empty fin rest body = body ≡ []
HoldsBody (Length n) fin rest body = (n ≤ length rest) × (body ≡ take n rest)
HoldsBody Chunked fin rest body = IsChunked rest body
HoldsBody Close fin rest body = (fin ≡ true) × (body ≡ rest)
HoldsBody BadLength fin rest body = ⊥

-- the octets of the body that the rest of the stream fixes
abbrev pub HoldsSoFar : Framing → List ℕ → List ℕ → Type 0
HoldsSoFar Empty rest octets = octets ≡ []
HoldsSoFar (Length n) rest octets = octets ≡ take n rest
HoldsSoFar Chunked rest octets = IsChunkedSoFar rest octets
HoldsSoFar Close rest octets = octets ≡ rest
HoldsSoFar BadLength rest octets = octets ≡ []

-- the part at which a body in chunks can't be one, whatever follows
abbrev pub IsBadChunked : Part → List ℕ → Type 0
IsBadChunked part.Head rest = ⊥
IsBadChunked part.Length rest = ⊥
IsBadChunked part.Chunk rest = NeverHasChunks rest
IsBadChunked part.Trailer rest = NeverHasTrailer rest

-- the part at which the rest of the stream is no body, whatever follows
abbrev pub IsBadBody : Framing → List ℕ → Part → Type 0
IsBadBody Empty rest bad = ⊥
IsBadBody (Length n) rest bad = ⊥
IsBadBody Chunked rest bad = IsBadChunked bad rest
IsBadBody Close rest bad = ⊥
IsBadBody BadLength rest bad = bad ≡ part.Length
