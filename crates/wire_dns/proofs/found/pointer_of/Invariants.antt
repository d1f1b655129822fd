-- No row so far says so.
use Rattle.std.proofs.Common.{◌≡◌}
use Rattle.wire_dns.specs.Found.{of_name, pointer_in}
use Rattle.wire_dns.specs.Rows.{list_of}
use Rattle.wire_dns.proofs.found.pointer_of.Given as goal

abbrev pub invariant-loop-row : goal.invariant-loop-row
invariant-loop-row l = of_name pointer_in l.name (list_of l.rest) ≡ of_name pointer_in l.name (list_of l.rows)

abbrev pub decreases-loop-row : goal.decreases-loop-row
decreases-loop-row l = l.rest.left
