use Rattle.std.proofs.Common.{arith}
use Rattle.text_base.proofs.Digits.{value_more}
use Rattle.text_base.proofs.numbers.value.Goals as goal

pub returns-in_default : goal.returns-in_default
returns-in_default c =
    let more = value_more c.args.text.now c.loop-digit.digit-index c.loop-digit.value c.requires c.loop-digit-test.true c.loop-digit.invariant in
    omega (arith, more, c.in_default.ensures)

pub returns-in_default-checked_add : goal.returns-in_default-checked_add
returns-in_default-checked_add c =
    let more = value_more c.args.text.now c.loop-digit.digit-index c.loop-digit.value c.requires c.loop-digit-test.true c.loop-digit.invariant in
    omega (arith, more, c.in_default-checked_add.ensures, c.in-Some.ensures)

pub loop-digit-preserved : goal.loop-digit-preserved
loop-digit-preserved c =
    let more = value_more c.args.text.now c.loop-digit.digit-index c.loop-digit.value c.requires c.loop-digit-test.true c.loop-digit.invariant in
    omega (arith, more, c.in-Some-checked_add.ensures, c.in-Some.ensures)
