-- What was summed and what is left give the whole sum, and at most 2^64 was added for each octet.
use Rattle.std.proofs.Common.{length}
use Rattle.efi_base.proofs.Sums.{SumsSoFar}
use Rattle.efi_base.proofs.internet_sum.total_of.Given as goal

abbrev pub invariant-loop-rest : goal.invariant-loop-rest
invariant-loop-rest l = SumsSoFar l.total l.rest l.bytes

abbrev pub decreases-loop-rest : goal.decreases-loop-rest
decreases-loop-rest l = length l.rest
