-- The parties to a call: what gives octets and what takes them, before the call and after it.
use Rattle.std.specs.Prelude.{◌≡◌, ℕ, Option, List}
use Rattle.std.specs.Io.KnownBytes.{Appends}
use Rattle.efi_outside.specs.Causes.{AppendsFront}

-- an object before a call and after it, the octets that it tells (those that it has left, or those that it holds), and how
-- often it failed
pub record Party (T : Type 0) : Type 0 where
  pub old : T
  pub new : T
  pub octets : T → Option (List ℕ)
  pub faults : T → ℕ

abbrev pub IsUntouched : {T : Type 0} → Party T → Type 0
IsUntouched p = p.new ≡ p.old

-- exactly these octets came to those that it holds
abbrev pub Takes : {T : Type 0} → Party T → List ℕ → Type 0
Takes p text = Appends (p.octets p.old) (p.octets p.new) text

-- some front of them came
abbrev pub TakesFront : {T : Type 0} → Party T → List ℕ → Type 0
TakesFront p text = AppendsFront (p.octets p.old) (p.octets p.new) text
