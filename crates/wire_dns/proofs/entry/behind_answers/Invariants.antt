-- What is left to look at decides.
use Rattle.std.proofs.Common.{◌≡◌, ℕ}
use Rattle.wire_dns.specs.Rows.{are_answers}
use Rattle.wire_dns.proofs.entry.behind_answers.Given as goal

abbrev pub invariant-loop-left : goal.invariant-loop-left
invariant-loop-left l = (others : ℕ) → are_answers l.octets others l.left l.place ≡ are_answers l.octets others l.count l.at

abbrev pub decreases-loop-left : goal.decreases-loop-left
decreases-loop-left l = l.left
