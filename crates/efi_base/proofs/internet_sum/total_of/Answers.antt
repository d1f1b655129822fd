-- Each word of 64 bits adds its four words of 16, and at most 2^64.
use Rattle.std.proofs.Common.{arith}
use Rattle.std.proofs.lemmas.List.{take_rest}
use Rattle.efi_base.proofs.Sums.{sums-more}
use Rattle.efi_base.proofs.internet_sum.total_of.Goals as goal

pub loop-rest-preserved : goal.loop-rest-preserved
loop-rest-preserved c =
    rw (take_rest c.loop-rest.rest.now 8, c.read_u64.ensures)
    (sums-more c.loop-rest.total c.loop-rest.rest.now c.args.bytes.now (omega arith) (rw c.read_u64.ensures at c.read_u64.type_inv) c.loop-rest.invariant)
