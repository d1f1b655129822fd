-- What is left to look at decides.
use Rattle.std.proofs.Common.{◌≡◌}
use Rattle.wire_dns.specs.Rows.{are_within}
use Rattle.wire_dns.proofs.entry.are_within.Given as goal

abbrev pub invariant-loop-left : goal.invariant-loop-left
invariant-loop-left l = are_within l.octets l.left l.place ≡ are_within l.octets l.count l.at

abbrev pub decreases-loop-left : goal.decreases-loop-left
decreases-loop-left l = l.left
