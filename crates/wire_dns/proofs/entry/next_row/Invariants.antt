-- The rows left are those from the start, or those behind what isn't shown.
use Rattle.std.proofs.Common.{◌≡◌, ◌≤◌}
use Rattle.wire_dns.specs.Rows.{rows_in, list_of}
use Rattle.wire_dns.proofs.entry.next_row.Given as goal

abbrev pub invariant-loop-left : goal.invariant-loop-left
invariant-loop-left l = record { same : rows_in l.octets l.left l.place ≡ list_of l.rows; below : l.left ≤ l.rows.left }

abbrev pub decreases-loop-left : goal.decreases-loop-left
decreases-loop-left l = l.left
