-- What is kept of a stream.
use Rattle.std.specs.Prelude.{◌≡◌, ℕ, ◌<◌, Bool, ◌==◌, ◌&&◌, false, nat_lt, is_none, List, [], ◌++◌, length, take, Option, Some, None, if◌then◌else◌}
use Rattle.httparse.specs.Grammar.{ResponseHead, status_code}
use Rattle.wire_http.specs.declared.bodies.BodyState.{BodyState}
use Rattle.wire_http.specs.declared.bodies.BodyState.TheVariants as state
use Rattle.efi_base.specs.declared.response.CodingField.{CodingField}
use Rattle.wire_http.specs.declared.head.Framing.{Framing}
use Rattle.wire_http.specs.declared.head.Framing.TheVariants as framing
use Rattle.wire_http.specs.declared.head.HeadInfo.{HeadInfo}
use Rattle.wire_http.specs.Body.{HoldsSoFar}
use Rattle.wire_http.specs.Feeding.{BodyHasRead, IsState}
use Rattle.wire_http.specs.Heads.{fields_of, HasHeads}
use Rattle.wire_http.specs.Info.{IsInfo}
use Rattle.wire_http.specs.Response.{HasNoHeads, HasBadHead, HasBadHeads}
use Rattle.load_core.specs.declared.load.Load.{Load}
use Rattle.load_core.specs.declared.load.Stage.{Stage}
use Rattle.load_core.specs.declared.load.Stage.TheVariants.{Heads, BadHead, Behind}
use Rattle.load_core.specs.declared.reading.Reading.{Reading}
use Rattle.efi_base.specs.declared.load_end.LoadEnd.{LoadEnd}
use Rattle.efi_base.specs.declared.load_end.LoadEnd.TheVariants.{Success, BadResponse, HttpStatus, Coding, BufferTooSmall, Truncated, Reset}

-- how many octets of a body are placed at most: none of one that isn't a load's
abbrev pub room_of : HeadInfo → ℕ → ℕ
room_of info most = if info.status == 200 && is_none info.coding then most else 0

-- the rest of the stream was read, and these are the octets of the body that it fixes
pub record Reads (r : Reading) (rest octets : List ℕ) : Type 0 where
  pub read : BodyHasRead r.body r.info.framing rest
  pub state : IsState r.state r.info.framing false rest
  pub so_far : HoldsSoFar r.info.framing rest octets
  pub count : r.count ≡ length octets

-- the same, with octets behind those that were there, of which so many are placed at most
abbrev pub ReadsOn : Reading → ℕ → List ℕ → List ℕ → List ℕ → Type 0
ReadsOn r most placed rest octets =
    (more : List ℕ) × Reads r rest (octets ++ more) × (placed ≡ take most (octets ++ more))

-- the final head isn't whole, and may become so
pub record AtHeads (kept placed stream : List ℕ) : Type 0 where
  pub kept_is : kept ≡ stream
  pub short : length stream < 16384
  pub none : HasNoHeads stream
  pub may : ¬ (HasBadHead stream)
  pub placed_is : placed ≡ []

-- the final head is whole
pub record IsBehind (r : Reading) (placed : List ℕ) (most : ℕ) (stream : List ℕ) : Type 0 where
  pub interim : List ResponseHead
  pub final : ResponseHead
  pub rest : List ℕ
  pub heads : HasHeads stream interim final rest
  pub says : IsInfo r.info (status_code final) (fields_of final)
  pub octets : List ℕ
  pub reads : Reads r rest octets
  pub placed_is : placed ≡ take (room_of r.info most) octets

-- the same by the stage
abbrev pub StandsAt : Stage → List ℕ → List ℕ → ℕ → List ℕ → Type 0
StandsAt Heads kept placed most stream = AtHeads kept placed stream
StandsAt BadHead kept placed most stream = HasBadHeads stream × (placed ≡ [])
StandsAt (Behind r) kept placed most stream = IsBehind r placed most stream

-- the load has taken in this stream, whose length is counted, with a buffer of so many octets
unfoldable pub HasTaken : Load → ℕ → List ℕ → Type 0
HasTaken load most stream =
    (load.most ≡ most) × StandsAt load.stage load.kept.items load.placed.items most stream × (load.taken ≡ length stream)

-- the load is as it was: the buffer's length, how far the response is, and the octets that are kept, placed and counted
abbrev pub IsUnchanged : Load → Load → Type 0
IsUnchanged old new =
    (new.most ≡ old.most) × (new.stage ≡ old.stage) × (new.kept.items ≡ old.kept.items) × (new.placed.items ≡ old.placed.items)
    × (new.taken ≡ old.taken)

-- the length that the framing states, or how many octets came
abbrev pub length_by : Framing → ℕ → ℕ
length_by framing.Empty count = count
length_by (framing.Length n) count = n
length_by framing.Chunked count = count
length_by framing.Close count = count
length_by framing.BadLength count = count

-- the case where the response has none: the stream ended at this length, or the peer reset the connection
abbrev pub case_without : Bool → ℕ → Bool → Option LoadEnd
case_without fin taken reset = if fin then Some (Truncated taken) else (if reset then Some Reset else None)

-- what is told of a body that isn't coded
abbrev pub case_by_length : ℕ → ℕ → Option LoadEnd → Option LoadEnd
case_by_length len most otherwise = if nat_lt most len then Some (BufferTooSmall len) else otherwise

abbrev pub case_by_coding : Option CodingField → ℕ → ℕ → Option LoadEnd → Option LoadEnd
case_by_coding None len most otherwise = case_by_length len most otherwise
case_by_coding (Some field) len most otherwise = Some (Coding field)

-- what the final head and the length of the body tell
abbrev pub case_by_head : HeadInfo → ℕ → ℕ → Option LoadEnd → Option LoadEnd
case_by_head info len most otherwise =
    if info.status == 200 then case_by_coding info.coding len most otherwise else Some (HttpStatus info.status)

-- the same by how far the body is, of which so many octets came
abbrev pub case_of : BodyState → HeadInfo → ℕ → ℕ → Option LoadEnd → Option LoadEnd
case_of state.More info count most otherwise = case_by_head info (length_by info.framing count) most otherwise
case_of state.Whole info count most otherwise = case_by_head info (length_by info.framing count) most (Some (Success count))
case_of (state.Bad part) info count most otherwise = Some (BadResponse part)
