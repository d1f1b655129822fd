-- What was summed and what is left give the whole sum.
use Rattle.std.proofs.Common.{◌≡◌, ◌+◌, length}
use Rattle.efi_base.specs.Checksum.{plain_sum, words}
use Rattle.efi_base.proofs.internet_sum.short_total.Given as goal

abbrev pub invariant-loop-rest : goal.invariant-loop-rest
invariant-loop-rest l = l.total + plain_sum (words l.rest) ≡ plain_sum (words l.bytes)

abbrev pub decreases-loop-rest : goal.decreases-loop-rest
decreases-loop-rest l = length l.rest
