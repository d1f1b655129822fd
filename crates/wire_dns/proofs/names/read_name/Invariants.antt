-- What was read so far, and what stands where the pointer leads, is what stands at the name's place.
use Rattle.wire_dns.proofs.Runs.{Pointed}
use Rattle.wire_dns.proofs.names.read_name.Given as goal

abbrev pub invariant-loop-pointer : goal.invariant-loop-pointer
invariant-loop-pointer l = Pointed l.msg l.at l.text.items l.limit l.pointer

abbrev pub decreases-loop-pointer : goal.decreases-loop-pointer
decreases-loop-pointer l = l.limit
