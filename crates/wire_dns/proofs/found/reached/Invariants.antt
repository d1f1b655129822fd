-- The steps left lead from the last name to where all lead from the first.
use Rattle.std.proofs.Common.{◌≡◌}
use Rattle.wire_dns.specs.Found.{reached}
use Rattle.wire_dns.specs.Rows.{list_of}
use Rattle.wire_dns.proofs.found.reached.Given as goal

abbrev pub invariant-loop-steps : goal.invariant-loop-steps
invariant-loop-steps l = reached l.steps (list_of l.rows) l.last ≡ reached 8 (list_of l.rows) l.name

abbrev pub decreases-loop-steps : goal.decreases-loop-steps
decreases-loop-steps l = l.steps
