-- What a reader of bodies does with a piece, told of the whole list of octets that it has read.
use Rattle.std.specs.Prelude.{◌≡◌, ℕ, Bool, List, [], ◌∷◌, ◌++◌}
use Rattle.wire_http.specs.declared.bodies.Body.{Body}
use Rattle.wire_http.specs.declared.bodies.BodyState.{BodyState}
use Rattle.wire_http.specs.declared.bodies.BodyState.TheVariants.{More, Whole, Bad}
use Rattle.wire_http.specs.declared.head.Framing.{Framing}
use Rattle.efi_base.specs.declared.response.Part.{Part}
use Rattle.wire_http.specs.Body.{HoldsBody, HoldsSoFar, IsBadBody}
use Rattle.wire_http.specs.declared.stage.Stage.{Stage}
use Rattle.wire_http.specs.declared.stage.Stage.TheVariants.{Done, Left, UntilEnd, Line, Octets, Return, Feed, Trailer}
use Rattle.wire_http.specs.declared.stage.Stage.TheVariants as stage
use Rattle.wire_http.specs.Stages.{walk, start}

-- the reader was made for the framing, and has read these octets since
abbrev pub BodyHasRead : Body → Framing → List ℕ → Type 0
BodyHasRead body framing read = (walk (start framing) read).1 ≡ body.stage

-- Whole exactly where the octets hold a whole body, and Bad with its part exactly where they are no body, whatever
-- follows; so More exactly where neither is so
pub record IsState (state : BodyState) (framing : Framing) (fin : Bool) (read : List ℕ) : Type 0 where
  pub whole : state ≡ Whole → (body : List ℕ) × HoldsBody framing fin read body
  pub is_whole : (body : List ℕ) → HoldsBody framing fin read body → state ≡ Whole
  pub bad : (part : Part) → state ≡ Bad part → IsBadBody framing read part
  pub is_bad : (part : Part) → IsBadBody framing read part → state ≡ Bad part

-- the next octet is one of the body
abbrev pub IsNextOctet : Framing → List ℕ → ℕ → Type 0
IsNextOctet framing read b =
    (octets : List ℕ) × HoldsSoFar framing read octets × HoldsSoFar framing (read ++ b ∷ []) (octets ++ b ∷ [])

-- what is answered at a stage
abbrev pub answer : Stage → BodyState
answer Done = Whole
answer (stage.Bad p) = Bad p
answer (Left n) = More
answer UntilEnd = More
answer (Line place size len) = More
answer (Octets n) = More
answer Return = More
answer Feed = More
answer (Trailer place fields len) = More

-- the same at the stream's end
abbrev pub answer_at_end : Stage → BodyState
answer_at_end Done = Whole
answer_at_end (stage.Bad p) = Bad p
answer_at_end (Left n) = More
answer_at_end UntilEnd = Whole
answer_at_end (Line place size len) = More
answer_at_end (Octets n) = More
answer_at_end Return = More
answer_at_end Feed = More
answer_at_end (Trailer place fields len) = More
