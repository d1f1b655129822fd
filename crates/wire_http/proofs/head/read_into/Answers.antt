use Rattle.std.proofs.Common.{◌≤◌, ◌<◌, arith}
use Rattle.wire_http.specs.Begun.{fields_begun}
use Rattle.wire_http.proofs.LineCount.{may_become, never_has}
use Rattle.wire_http.proofs.head.read_into.Goals as goal

pub returns-in-Ok-Partial-clause-more : goal.returns-in-Ok-Partial-clause-more
returns-in-Ok-Partial-clause-more c _ =
    let few : fields_begun c.args.bytes.now ≤ 64 = omega (arith, c.fields_begun.ensures) in
    may_become c.args.bytes.now (rw c.in-Ok-Partial.field-0-is at c.in-Ok-Partial.ensures.unfinished) few

pub returns-in_default-clause-bad : goal.returns-in_default-clause-bad
returns-in_default-clause-bad c _ =
    let over : 64 < fields_begun c.args.bytes.now = omega (arith, c.fields_begun.ensures) in
    never_has c.args.bytes.now over
