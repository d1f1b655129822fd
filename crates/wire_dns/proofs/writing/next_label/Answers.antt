-- The first label ends at the first dot.
use Rattle.std.proofs.Common.{◌<◌, length, arith}
use Rattle.wire_dns.proofs.Labels.{first-cut, first-only}
use Rattle.wire_dns.proofs.writing.next_label.Goals as goal

pub returns-then-end-text-clause-labels : goal.returns-then-end-text-clause-labels
returns-then-end-text-clause-labels c = first-only c.args.text.now _ c.if-end-text.true c.dot_at-end.ensures.before

pub returns-clause-labels : goal.returns-clause-labels
returns-clause-labels c =
    let within : c.dot_at-end.result < length c.args.text.now = omega arith in
    first-cut c.args.text.now _ within c.dot_at-end.ensures.before (c.dot_at-end.ensures.at within)
