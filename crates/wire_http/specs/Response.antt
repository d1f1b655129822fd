-- The response that a stream holds (RFC 9112, sections 2.1 and 6.3): whole, as far as it is there, and bad.
use Rattle.std.specs.Prelude.{◌≡◌, ℕ, ◌≤◌, ◌⊎◌, Bool, List, [], ◌++◌, length, None, IsTrue}
use Rattle.std.specs.List.{flat_map, AllByRecursion}
use Rattle.httparse.specs.Grammar.{ResponseHead, print_response, status_code}
use Rattle.efi_base.specs.declared.response.Part.{Part}
use Rattle.efi_base.specs.declared.response.Part.TheVariants as part
use Rattle.wire_http.specs.Body.{HoldsBody, HoldsSoFar, IsBadBody}
use Rattle.wire_http.specs.Fields.{coding_of, framing_of}
use Rattle.wire_http.specs.Heads.{fields_of, IsHead, is_interim, HasHeads}
use Rattle.wire_http.specs.Info.{NeverHasHead}

-- the stream holds a whole response of this status with this body
pub record IsWhole (stream : List ℕ) (fin : Bool) (status : ℕ) (body : List ℕ) : Type 0 where
  pub interim : List ResponseHead
  pub final : ResponseHead
  pub rest : List ℕ
  pub heads : HasHeads stream interim final rest
  pub status_is : status ≡ status_code final
  pub uncoded : coding_of (fields_of final) ≡ None
  pub holds : HoldsBody (framing_of status (fields_of final)) fin rest body

-- the final head isn't whole
abbrev pub HasNoHeads : List ℕ → Type 0
HasNoHeads stream = (interim : List ResponseHead) (final : ResponseHead) (rest : List ℕ) → ¬ (HasHeads stream interim final rest)

-- the final head is whole, and the octets behind it fix these of its body
pub record HasBodySoFar (stream octets : List ℕ) : Type 0 where
  pub interim : List ResponseHead
  pub final : ResponseHead
  pub rest : List ℕ
  pub heads : HasHeads stream interim final rest
  pub holds : HoldsSoFar (framing_of (status_code final) (fields_of final)) rest octets

-- the octets of the body that the stream fixes: none before the final head is whole
abbrev pub IsBodySoFar : List ℕ → List ℕ → Type 0
IsBodySoFar stream octets = (HasNoHeads stream × (octets ≡ [])) ⊎ HasBodySoFar stream octets

-- interim heads stand in front, and behind them what is no head, whatever follows
pub record HasBadHead (stream : List ℕ) : Type 0 where
  pub interim : List ResponseHead
  pub valid : AllByRecursion IsHead interim
  pub are_interim : AllByRecursion (λ head. IsTrue (is_interim head)) interim
  pub rest : List ℕ
  pub text : stream ≡ flat_map print_response interim ++ rest
  pub never : NeverHasHead rest

-- no heads, whatever follows: there is no head behind the interim ones, or 16,384 octets are there and the final head
-- isn't whole
abbrev pub HasBadHeads : List ℕ → Type 0
HasBadHeads stream = HasBadHead stream ⊎ ((16384 ≤ length stream) × HasNoHeads stream)

-- the final head is whole, and the octets behind it are bad at this part of a body
pub record HasBadBody (stream : List ℕ) (bad : Part) : Type 0 where
  pub interim : List ResponseHead
  pub final : ResponseHead
  pub rest : List ℕ
  pub heads : HasHeads stream interim final rest
  pub is_bad : IsBadBody (framing_of (status_code final) (fields_of final)) rest bad

-- the part at which the stream is no response, whatever follows
abbrev pub IsBad : List ℕ → Part → Type 0
IsBad stream part.Head = HasBadHeads stream
IsBad stream part.Length = HasBadBody stream part.Length
IsBad stream part.Chunk = HasBadBody stream part.Chunk
IsBad stream part.Trailer = HasBadBody stream part.Trailer
