-- What was put, with the rows left, is what was there with all rows.
use Rattle.std.proofs.Common.{◌≡◌, ◌++◌, drop}
use Rattle.wire_dns.specs.Spelling.{rows_text}
use Rattle.wire_dns.proofs.writing.put_rows.Given as goal

abbrev pub invariant-loop-row : goal.invariant-loop-row
invariant-loop-row l = l.fn.rest.items ++ rows_text l.rows ≡ l.rest.items ++ rows_text (drop l.row-index l.rows)
