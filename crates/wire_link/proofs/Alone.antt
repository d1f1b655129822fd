-- A header with nothing behind it.
use Rattle.std.proofs.Common.{◌≡◌, ℕ, List, [], ◌++◌, Result}
use Rattle.std.proofs.lemmas.List.{append-nil}
use Rattle.efi_base.specs.declared.fault.NoRoom.{NoRoom}
use Rattle.efi_base.specs.Writes.{Writes}

-- nothing follows the header
pub header-alone : (text header old : List ℕ) (result : Result ℕ NoRoom) (now : List ℕ) → header ≡ text → Writes (header ++ []) old result now → Writes text old result now
header-alone text header old result now e w = rw (append-nil header, e) at w
