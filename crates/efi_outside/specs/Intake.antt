-- What reading a source to its end takes, and when it may answer which fault.
use Rattle.std.specs.Prelude.{◌≡◌, ℕ, ◌≤◌, Option, List, ◌++◌, length, Result, IsErrOf, OnOk}
use Rattle.std.specs.Io.KnownBytes.{Consumes, IsAtEnd}
use Rattle.efi_outside.specs.Causes.{Rose}
use Rattle.efi_outside.specs.declared.intake.InputFault.{InputFault}
use Rattle.efi_outside.specs.declared.intake.InputFault.TheVariants as fault

-- the octets of the longest input: 2 GiB
abbrev pub input_limit : ℕ
input_limit = 2147483648

-- at most so many octets were taken from what was left
abbrev pub TakesAtMost : Option (List ℕ) → Option (List ℕ) → ℕ → Type 0
TakesAtMost old new most = (front : List ℕ) × Consumes old new front × (length front ≤ most)

-- n octets went from what was left behind the input, none only at the end
pub record PutsPiece (old new : Option (List ℕ)) (before now : List ℕ) (n : ℕ) : Type 0 where
  pub piece : List ℕ
  pub taken : Consumes old new piece
  pub put : now ≡ before ++ piece
  pub count : length piece ≡ n
  pub end : n ≡ 0 → IsAtEnd new

-- the source's count of faults rose where it failed, and stays with every other answer
pub record HasInputCause {T : Type 0} (before now : ℕ) (result : Result T InputFault) : Type 0 where
  pub later : before ≤ now
  pub failed : IsErrOf result fault.Failed → Rose before now
  pub too_long : IsErrOf result fault.TooLong → now ≡ before
  pub memory : IsErrOf result fault.OutOfResources → now ≡ before
  pub kept : OnOk result (now ≡ before)
