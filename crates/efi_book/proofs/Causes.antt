-- The first cause refuses.
use Rattle.std.proofs.Common.{Option, Some, None, Err}
use Rattle.efi_base.specs.Refusals.{RefusesExactly, first_of}
use Rattle.efi_base.specs.declared.refuse.Refuse.{Refuse}

pub refused-by_first : (T U : Type 0) (x y : Option Refuse) (why : Refuse) → RefusesExactly {T = T} x (Err why)
    → RefusesExactly {T = U} (first_of x y) (Err why)
refused-by_first T U None y why h = absurd h
refused-by_first T U (Some w) y why h = h
