-- A row that doesn't fit is one too many.
use Rattle.std.proofs.Common.{◌<◌, ◌++◌, length, length-append, sym, arith}
use Rattle.wire_dns.specs.Spelling.{rows_text}
use Rattle.wire_dns.proofs.Written.{rows-full}
use Rattle.wire_dns.proofs.writing.put_rows.Goals as goal

pub returns-then-not-put_row-clause-full : goal.returns-then-not-put_row-clause-full
returns-then-not-put_row-clause-full c = λ _.
    let full : 500 < length (c.args.rest.now.items ++ rows_text c.args.rows.now) = rows-full (c.args.rest.now.items ++ rows_text c.args.rows.now) c.loop-row.rest.items c.args.rows.now c.loop-row.row-index c.row-item.result c.row-item.result
    c.loop-row-test.true (sym c.row-item.is) c.loop-row.invariant (c.put_row.ensures.full c.if-not-put_row.true) in
    omega (arith, full, length-append c.args.rest.now.items (rows_text c.args.rows.now))
