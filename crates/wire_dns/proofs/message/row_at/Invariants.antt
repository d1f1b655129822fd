-- The row is as far behind the walk as is left to count.
use Rattle.std.proofs.Common.{◌≡◌, slice_get}
use Rattle.wire_dns.specs.Rows.{list_of}
use Rattle.wire_dns.proofs.message.row_at.Given as goal

abbrev pub invariant-loop-row : goal.invariant-loop-row
invariant-loop-row l = slice_get (list_of l.rest) l.before ≡ slice_get (list_of l.rows) l.n

abbrev pub decreases-loop-row : goal.decreases-loop-row
decreases-loop-row l = l.rest.left
