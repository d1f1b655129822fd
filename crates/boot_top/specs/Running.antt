-- What a command that is built answers, whichever it is: the statuses, when each comes, and what is read and written with it.
use Rattle.std.specs.Prelude.{◌≡◌, ◌≢◌, ◌⊎◌, ◌+◌, ◌<◌, ℕ, Bool, true, false, Option, List, [], length, IfSome}
use Rattle.std.specs.Io.KnownBytes.{IsAtEnd}
use Rattle.efi_outside.specs.Causes.{Rose}
use Rattle.efi_outside.specs.Intake.{TakesAtMost, input_limit}
use Rattle.efi_feed.specs.Pieces.{TakesExactly}
use Rattle.boot_top.specs.Parties.{Party, IsUntouched, Takes, TakesFront}

-- what a command means
pub record Command : Type 1 where
  -- it reads an input, to its end
  pub reads : Bool
  -- it writes a capture
  pub captures : Bool
  -- it writes no text where what it ran ends otherwise than with success
  pub is_silent : Bool
  -- with this status, this text and this capture are right for this input
  pub IsRight : List ℕ → ℕ → List ℕ → List ℕ → Type 0
  -- the input alone decides this status
  pub Decides : List ℕ → ℕ → Type 0

-- a command that reads its input and writes no capture
abbrev pub reading : Bool → (List ℕ → ℕ → List ℕ → List ℕ → Type 0) → (List ℕ → ℕ → Type 0) → Command
reading silent IsRight Decides = record { reads = true; captures = false; is_silent = silent; IsRight = IsRight; Decides = Decides }

-- what holds of the input of a command, where the source tells it; of a command that reads none, it is empty
abbrev pub OnInput : Bool → Option (List ℕ) → (List ℕ → Type 0) → Type 0
OnInput true left P = IfSome left P
OnInput false left P = P []

-- the command came to its end, and this status says how; 8 is that of an input that is right, of a command that isn't built
abbrev pub IsVerdict : ℕ → Type 0
IsVerdict status = (status ≡ 0) ⊎ (status ≡ 1) ⊎ (status ≡ 3) ⊎ (status ≡ 8)

-- the status says nothing of the input: the source or a sink failed, memory ran out, or the input is too long
abbrev pub IsNoVerdict : ℕ → Type 0
IsNoVerdict status = (status ≡ 4) ⊎ (status ≡ 5) ⊎ (status ≡ 6) ⊎ (status ≡ 7)

-- the text and the capture are written
pub record Writes {K P : Type 0} (command : Command) (out : Party K) (cap : Party P) (status : ℕ) (input : List ℕ) : Type 0 where
  pub text : List ℕ
  pub capture : List ℕ
  pub right : command.IsRight input status text capture
  pub out_takes : Takes out text
  pub cap_takes : Takes cap capture

-- a front of them is: the text only behind the whole capture
pub record WritesFront {K P : Type 0} (command : Command) (out : Party K) (cap : Party P) (input : List ℕ) : Type 0 where
  pub status : ℕ
  pub text : List ℕ
  pub capture : List ℕ
  pub right : command.IsRight input status text capture
  pub front : (Takes cap capture × TakesFront out text) ⊎ (IsUntouched out × TakesFront cap capture)

-- the input is read to its end before anything is written, and no further than an octet past the limit
pub record ReadsAll {S K P : Type 0} (src : Party S) (out : Party K) (cap : Party P) (status : ℕ) : Type 0 where
  pub whole : IsVerdict status ⊎ (status ≡ 5) → IsAtEnd (src.octets src.new)
  pub first : (out.new ≢ out.old) ⊎ (cap.new ≢ cap.old) → IsAtEnd (src.octets src.new)
  pub taken : TakesAtMost (src.octets src.old) (src.octets src.new) (input_limit + 1)
  pub too_long : status ≡ 7 → TakesExactly (src.octets src.old) (src.octets src.new) (input_limit + 1)
  pub failed : status ≡ 4 → TakesAtMost (src.octets src.old) (src.octets src.new) input_limit
  pub long : IfSome (src.octets src.old) (λ input. input_limit < length input → (status ≡ 4) ⊎ (status ≡ 6) ⊎ (status ≡ 7))

abbrev pub Reads : {S K P : Type 0} → Bool → Party S → Party K → Party P → ℕ → Type 0
Reads true src out cap status = ReadsAll src out cap status
Reads false src out cap status = IsUntouched src × (status ≢ 7)

-- when the statuses come that say nothing of the input; 6, want of memory, may come at any point
pub record HasCauses {S K P : Type 0} (command : Command) (src : Party S) (out : Party K) (cap : Party P) (status : ℕ) : Type 0 where
  pub source : status ≡ 4 → Rose (src.faults src.old) (src.faults src.new)
  pub source_failed : src.faults src.new ≢ src.faults src.old → status ≡ 4
  pub sink : status ≡ 5 → Rose (out.faults out.old) (out.faults out.new)
      ⊎ ((command.captures ≡ true) × Rose (cap.faults cap.old) (cap.faults cap.new))
  pub sink_failed : (out.faults out.new ≢ out.faults out.old) ⊎ (cap.faults cap.new ≢ cap.faults cap.old) → status ≡ 5

-- what is answered and written
pub record Runs {S K P : Type 0} (command : Command) (src : Party S) (out : Party K) (cap : Party P) (status : ℕ) : Type 0 where
  pub answered : IsVerdict status ⊎ IsNoVerdict status
  pub verdict : IsVerdict status → OnInput command.reads (src.octets src.old) (Writes command out cap status)
  pub decided : OnInput command.reads (src.octets src.old) (λ input. (due : ℕ) → command.Decides input due
      → (status ≡ due) ⊎ IsNoVerdict status)
  pub front : (status ≡ 5) ⊎ (status ≡ 6) → OnInput command.reads (src.octets src.old) (λ input.
      (IsUntouched out × IsUntouched cap) ⊎ WritesFront command out cap input)
  pub nothing : (status ≡ 4) ⊎ (status ≡ 7) ⊎ (status ≡ 8) → IsUntouched out × IsUntouched cap
  pub silent : command.is_silent ≡ true → status ≡ 1 → IsUntouched out
  pub no_capture : command.captures ≡ false → IsUntouched cap
  pub reads : Reads command.reads src out cap status
  pub causes : HasCauses command src out cap status
