-- The sums stay far below the type's end.
use Rattle.std.proofs.Common.{arith}
use Rattle.efi_base.proofs.Sums.{words-bound}
use Rattle.efi_base.proofs.internet_sum.short_total.Goals as goal

pub overflow_add-total : goal.overflow_add-total
overflow_add-total c =
    omega (arith, words-bound c.args.bytes.now (λ i. omega (arith, c.type_inv.bytes i)), c.loop-rest.invariant)

pub overflow_add-result : goal.overflow_add-result
overflow_add-result c =
    omega (arith, words-bound c.args.bytes.now (λ i. omega (arith, c.type_inv.bytes i)), c.loop-rest.invariant)
