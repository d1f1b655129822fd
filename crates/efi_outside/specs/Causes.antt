-- When an object of the outside may answer that it failed.
use Rattle.std.specs.Prelude.{◌≡◌, ℕ, ◌+◌, ◌-◌, ◌^◌, ◌≤◌, min, Option, List, take, Result, IsErrOf, OnOk, OnErr}
use Rattle.std.specs.Io.KnownBytes.{Appends}
use Rattle.efi_outside.specs.declared.fault.Failed.{Failed}
use Rattle.efi_outside.specs.declared.fault.Miss.{Miss}
use Rattle.efi_outside.specs.declared.fault.Miss.TheVariants as miss

-- a count of faults rose, or stands at the end of its type
abbrev pub Rose : ℕ → ℕ → Type 0
Rose before now = min (before + 1) (2 ^ 64 - 1) ≤ now

-- `Failed` comes only where the count rose, and a call that succeeds leaves it
pub record HasCause {T : Type 0} (before now : ℕ) (result : Result T Failed) : Type 0 where
  pub later : before ≤ now
  pub failed : OnErr result (Rose before now)
  pub kept : OnOk result (now ≡ before)

-- the same of an object that may also want memory, which leaves the count
pub record HasMissCause {T : Type 0} (before now : ℕ) (result : Result T Miss) : Type 0 where
  pub later : before ≤ now
  pub failed : IsErrOf result miss.Failed → Rose before now
  pub memory : IsErrOf result miss.OutOfResources → now ≡ before
  pub kept : OnOk result (now ≡ before)

-- known bytes grow by some front of these bytes
abbrev pub AppendsFront : Option (List ℕ) → Option (List ℕ) → List ℕ → Type 0
AppendsFront old new bytes = (n : ℕ) × Appends old new (take n bytes)
