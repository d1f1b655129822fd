-- A stream is bad at one part.
use Rattle.std.proofs.Common.{◌≡◌, ℕ, List, sym, ap, ◌∙◌, subst, refl}
use Rattle.httparse.specs.Grammar.{ResponseHead, status_code}
use Rattle.wire_http.specs.declared.head.Framing.{Framing}
use Rattle.wire_http.specs.declared.bodies.BodyState.{BodyState}
use Rattle.wire_http.specs.declared.bodies.BodyState.TheVariants as state
use Rattle.efi_base.specs.declared.response.Part.{Part}
use Rattle.efi_base.specs.declared.response.Part.TheVariants as part
use Rattle.wire_http.specs.Body.{IsBadBody}
use Rattle.wire_http.specs.Feeding.{answer}
use Rattle.wire_http.specs.Fields.{framing_of}
use Rattle.wire_http.specs.Heads.{fields_of}
use Rattle.wire_http.specs.Response.{IsBad, HasBadBody, HasBadHeads}
use Rattle.wire_http.specs.Stages.{walk, start}
use Rattle.wire_http.proofs.BodyLaws.{state_is}
use Rattle.wire_http.proofs.ResponseLaws.{heads_unique, heads_not_bad}

same_part : (s : BodyState) (a b : Part) → s ≡ state.Bad a → s ≡ state.Bad b → a ≡ b
same_part s a b x y = let both : state.Bad a ≡ state.Bad b = sym x ∙ y in cc

body_one : (f : Framing) (rest : List ℕ) (a b : Part) → IsBadBody f rest a → IsBadBody f rest b → a ≡ b
body_one f rest a b x y =
    let told = state_is f rest in
    same_part (answer (walk (start f) rest).1) a b (told.is_bad a x) (told.is_bad b y)

bodies_one : (stream : List ℕ) (a b : Part) → HasBadBody stream a → HasBadBody stream b → a ≡ b
bodies_one stream a b x y =
    let same = heads_unique stream x.interim y.interim x.final y.final x.rest y.rest x.heads y.heads in
    let framing_same : framing_of (status_code y.final) (fields_of y.final) ≡ framing_of (status_code x.final) (fields_of x.final) =
    ap (λ (h : ResponseHead). framing_of (status_code h) (fields_of h)) (sym same.0) in
    let f = framing_of (status_code x.final) (fields_of x.final) in
    let other : IsBadBody f x.rest b =
    subst (λ (r : List ℕ). IsBadBody f r b) (sym same.1) (subst (λ (f : Framing). IsBadBody f y.rest b) framing_same y.is_bad) in
    body_one f x.rest a b x.is_bad other

not_both : (stream : List ℕ) (b : Part) → HasBadHeads stream → HasBadBody stream b → ⊥
not_both stream b x y = heads_not_bad stream y.interim y.final y.rest y.heads x

pub bad-one : (stream : List ℕ) (a b : Part) → IsBad stream a → IsBad stream b → a ≡ b
bad-one stream part.Head part.Head x y = refl
bad-one stream part.Head part.Length x y = absurd (not_both stream part.Length x y)
bad-one stream part.Head part.Chunk x y = absurd (not_both stream part.Chunk x y)
bad-one stream part.Head part.Trailer x y = absurd (not_both stream part.Trailer x y)
bad-one stream part.Length part.Head x y = absurd (not_both stream part.Length y x)
bad-one stream part.Length part.Length x y = refl
bad-one stream part.Length part.Chunk x y = bodies_one stream part.Length part.Chunk x y
bad-one stream part.Length part.Trailer x y = bodies_one stream part.Length part.Trailer x y
bad-one stream part.Chunk part.Head x y = absurd (not_both stream part.Chunk y x)
bad-one stream part.Chunk part.Length x y = bodies_one stream part.Chunk part.Length x y
bad-one stream part.Chunk part.Chunk x y = refl
bad-one stream part.Chunk part.Trailer x y = bodies_one stream part.Chunk part.Trailer x y
bad-one stream part.Trailer part.Head x y = absurd (not_both stream part.Trailer y x)
bad-one stream part.Trailer part.Length x y = bodies_one stream part.Trailer part.Length x y
bad-one stream part.Trailer part.Chunk x y = bodies_one stream part.Trailer part.Chunk x y
bad-one stream part.Trailer part.Trailer x y = refl
