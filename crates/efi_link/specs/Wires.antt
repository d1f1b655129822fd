-- What a link shows, and what one send and one receive do to it.
use Rattle.std.specs.Prelude.{◌≡◌, ⊤, ℕ, ◌≤◌, Bool, true, false, nat_le, List, [], ◌∷◌, ◌++◌, length, take, filter, map, find, Option, Some, None, option_map, IfSome, Result, Ok, Err, if◌then◌else◌}
use Rattle.efi_base.specs.declared.plain.Record.{Record}
use Rattle.efi_outside.specs.Causes.{Rose}
use Rattle.efi_outside.specs.declared.fault.Failed.{Failed}
use Rattle.efi_outside.specs.declared.fault.Miss.{Miss}
use Rattle.efi_outside.specs.declared.fault.Miss.TheVariants as miss
use Rattle.efi_link.specs.declared.tape.Try.{Try}

-- the frames that were tried, each with whether the link took it and with its moment; those that were given, each with
-- its moment; those still to come, each with the moment from which it is due, all where the link tells them; the link's
-- moment, and how often it failed
pub record Wire : Type 0 where
  pub tries : Option (List Try)
  pub given : Option (List Record)
  pub due : Option (List Record)
  pub moment : ℕ
  pub faults : ℕ

-- the frames that the link took
abbrev pub sent : Wire → Option (List (List ℕ))
sent w = option_map (λ (ts : List Try). map (λ (t : Try). t.frame) (filter (λ (t : Try). t.taken) ts)) w.tries

abbrev pub with_faults : Wire → ℕ → Wire
with_faults w n = record w { faults = n }

abbrev pub try_of : ℕ → List ℕ → Bool → Try
try_of moment frame taken = record { tick = record { 0 = moment }; frame = frame; taken = taken }

-- one more try, the last
abbrev pub tried : Wire → List ℕ → Bool → Wire
tried w frame taken = record w { tries = option_map (λ (ts : List Try). ts ++ try_of w.moment frame taken ∷ []) w.tries }

-- a send ends in one of three ways: the link took the frame; it lost it, and counted a fault; it had no memory
abbrev pub Sends : Wire → Wire → List ℕ → Result ⊤ Miss → Type 0
Sends old new frame (Ok done) = new ≡ tried old frame true
Sends old new frame (Err miss.Failed) = (new ≡ with_faults (tried old frame false) new.faults) × Rose old.faults new.faults
Sends old new frame (Err miss.OutOfResources) = new ≡ old

-- the frame may be given at this moment
abbrev pub is_due : ℕ → Record → Bool
is_due moment r = nat_le r.tick.0 moment

-- the frame that is given next at this moment
abbrev pub next_of : ℕ → List Record → Option (List ℕ)
next_of moment due = option_map (λ (r : Record). r.frame) (find (is_due moment) due)

-- the frames to come without that one
unfoldable pub without_next : ℕ → List Record → List Record
without_next moment [] = []
without_next moment (r ∷ due) = if is_due moment r then due else r ∷ without_next moment due

-- one more frame was given, the one that was next
abbrev pub gave : Wire → List ℕ → Wire
gave w frame = record w {
  given = option_map (λ (rs : List Record). rs ++ record { tick = record { 0 = w.moment }; frame = frame } ∷ []) w.given;
  due = option_map (without_next w.moment) w.due;
}

-- no octets are no frame
abbrev pub Gives : Wire → Wire → List ℕ → Type 0
Gives old new [] = (new ≡ old) × IfSome old.due (λ due. next_of old.moment due ≡ None)
Gives old new (octet ∷ octets) = (new ≡ gave old (octet ∷ octets)) × IfSome old.due (λ due. next_of old.moment due ≡ Some (octet ∷ octets))

-- a receive gives the next frame in the room's front, or nothing exactly where none is due, or counts a fault
abbrev pub Receives : Wire → Wire → List ℕ → Result ℕ Failed → Type 0
Receives old new room (Ok n) = (n ≤ length room) × Gives old new (take n room)
Receives old new room (Err failed) = (new ≡ with_faults old new.faults) × Rose old.faults new.faults
