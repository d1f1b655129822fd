-- The folded total is the one's complement sum.
use Rattle.std.proofs.Common.{◌+◌, arith}
use Rattle.efi_base.proofs.Sums.{checksum_of-parts, carries-both, folded-positive, folded-none}
use Rattle.efi_base.proofs.internet_sum.checksum.Goals as goal

pub returns-then-total-eq0 : goal.returns-then-total-eq0
returns-then-total-eq0 c =
    rw (← folded-none (c.total_of.result + c.total_of-2.result) (omega arith))
    (checksum_of-parts _ _ (c.total_of.result + c.total_of-2.result) (λ i. omega (arith, c.type_inv.first i)) (λ i. omega (arith, c.type_inv.second i)) c.requires
    (carries-both c.total_of.ensures.carries c.total_of-2.ensures.carries))

pub returns : goal.returns
returns c =
    rw (folded-positive (c.total_of.result + c.total_of-2.result) (omega arith))
    (checksum_of-parts _ _ (c.total_of.result + c.total_of-2.result) (λ i. omega (arith, c.type_inv.first i)) (λ i. omega (arith, c.type_inv.second i)) c.requires
    (carries-both c.total_of.ensures.carries c.total_of-2.ensures.carries))
