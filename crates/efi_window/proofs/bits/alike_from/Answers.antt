use Rattle.std.proofs.Common.{◌+◌, arith, refl}
use Rattle.efi_window.proofs.Words.{not-zero, not-one}
use Rattle.efi_window.proofs.bits.alike_from.Goals as goal

pub returns-then-set-clause-alike : goal.returns-then-set-clause-alike
returns-then-set-clause-alike c = λ i a b.
    let one = not-zero c.args.word i (omega arith) (omega arith) (c.zeros_from.ensures.zeros i a b) in
    rw one (cc)

pub returns-then-set-clause-ends : goal.returns-then-set-clause-ends
returns-then-set-clause-ends c = λ l.
    let none = not-one c.args.word (c.args.from + c.zeros_from.result) (omega arith) l (c.zeros_from.ensures.ends l) in
    rw none (rw c.if-set.true refl)
