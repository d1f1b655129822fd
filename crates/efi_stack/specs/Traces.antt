-- Lists of events of a stack: which tokens they took in and gave back, and which the stack still has.
use Rattle.std.specs.Prelude.{◌≡◌, ℕ, ◌+◌, Bool, ◌&&◌, nat_le, nat_lt, List, [], ◌∷◌, Option, if◌then◌else◌}
use Rattle.efi_base.specs.declared.tokens.Owner.{Owner}
use Rattle.efi_base.specs.declared.tokens.Owner.TheVariants.{User}
use Rattle.efi_stack.specs.declared.any.Call.{Call}
use Rattle.efi_stack.specs.declared.any.Answer.{Answer}
use Rattle.efi_stack.specs.declared.any.Answer.TheVariants.{Posted}
use Rattle.efi_stack.specs.declared.any.Fired.{Fired}
use Rattle.efi_stack.specs.declared.stack.Stack.{Stack}
use Rattle.efi_stack.specs.Answering.{came}
use Rattle.efi_stack.specs.Fires.{gone}
use Rattle.efi_stack.specs.Stacks.{owned}

-- a call with its answer, a heard frame, a tick, a sending of what is to be sent, and a taking of a token that ended; of each
-- but a call, memory may have lacked
pub data Event : Type 0 where
  Called : Call → Answer → Event
  Heard : List ℕ → Event
  Ticked : ℕ → Event
  Polled : Event
  Took : Option Fired → Event

-- how many tokens of this owner an event took in, and how many it gave back
abbrev pub takes_in : Owner → Event → ℕ
takes_in o (Called c a) = came o a
takes_in o e = 0

abbrev pub gives_back : Owner → Event → ℕ
gives_back o (Took f) = gone o f
gives_back o e = 0

-- the number of an accepted token is the next one, and the next one rises by one
abbrev pub Numbers : ℕ → Answer → ℕ → Type 0
Numbers next (Posted t) later = (t.0 ≡ next) × (later ≡ next + 1)
Numbers next a later = later ≡ next

abbrev pub CountsOn : ℕ → Event → ℕ → Type 0
CountsOn next (Called c a) later = Numbers next a later
CountsOn next e later = later ≡ next

-- what every event does with tokens
pub record IsStep (old : Stack) (e : Event) (new : Stack) : Type 0 where
  pub tokens : (o : Owner) → owned o new + gives_back o e ≡ owned o old + takes_in o e
  pub numbers : CountsOn old.next e new.next

-- these events, one after another
abbrev pub Runs : Stack → List Event → Stack → Type 0
Runs s [] later = later ≡ s
Runs s (e ∷ es) later = (mid : Stack) × IsStep s e mid × Runs mid es later

-- the caller's token of this number
abbrev pub users : ℕ → Owner
users n = User (record { 0 = n })

-- how often it was given back
abbrev pub given_back : ℕ → List Event → ℕ
given_back n [] = 0
given_back n (e ∷ es) = gives_back (users n) e + given_back n es

-- it was accepted: numbers go from 1 to the next one
abbrev pub is_accepted : ℕ → ℕ → Bool
is_accepted n next = nat_le 1 n && nat_lt n next

-- once, if it was accepted, and else never
abbrev pub once : ℕ → ℕ → ℕ
once n next = if is_accepted n next then 1 else 0
