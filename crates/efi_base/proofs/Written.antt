-- What stands in a room in which something was written.
use Rattle.std.proofs.Common.{◌≡◌, ℕ, List, take, Result, Ok, Err, IfOk, sym, ap, ◌∙◌}
use Rattle.std.proofs.lemmas.List.{take_at}
use Rattle.efi_base.specs.declared.fault.NoRoom.{NoRoom}
use Rattle.efi_base.specs.Writes.{Writes}

-- the text stands in front of the room
pub written-front : (text old : List ℕ) (result : Result ℕ NoRoom) (now : List ℕ) → Writes text old result now → IfOk result (λ n. take n now ≡ text)
written-front text old (Ok n) now w = ap (take n) w.2 ∙ take_at text _ n (sym w.0)
written-front text old (Err no_room) now w = tt

-- the front of the room is read as its text is
pub front-read : {X : Type 0} (read : List ℕ → X) (text old : List ℕ) (result : Result ℕ NoRoom) (now : List ℕ) (x : X)
    → Writes text old result now → read text ≡ x → IfOk result (λ n. read (take n now) ≡ x)
front-read read text old (Ok n) now x w e = ap read (written-front text old (Ok n) now w) ∙ e
front-read read text old (Err no_room) now x w e = tt
