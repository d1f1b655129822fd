-- What a piece took joins what was taken before it.
use Rattle.std.proofs.Common.{arith}
use Rattle.std.proofs.lemmas.List.{length-take}
use Rattle.efi_outside.proofs.Known.{TakesAtMost-more}
use Rattle.efi_outside.proofs.intake.read_all.Goals as goal

pub returns-in_err-read_piece-clause-taken : goal.returns-in_err-read_piece-clause-taken
returns-in_err-read_piece-clause-taken g c =
    TakesAtMost-more _ _ _ _ _ _ c.loop-input.invariant.taken c.read_piece.ensures.taken
    (omega (arith, length-take c.min-free.result c.deref_mut.result.now))
