use Rattle.std.proofs.Common.{sym, ◌∙◌}
use Rattle.text_base.proofs.Digits.{none_left, not_hex}
use Rattle.text_base.proofs.hex.is_hex_text.Goals as goal

pub returns-then-not-is_pair : goal.returns-then-not-is_pair
returns-then-not-is_pair c =
    sym (not_hex c.args.text.now c.loop-place.place c.is_pair.result c.loop-place-test.true c.is_pair.ensures c.if-not-is_pair.true) ∙ c.loop-place.invariant.1

pub returns : goal.returns
returns c =
    sym (none_left c.args.text.now c.loop-place.place c.loop-place.invariant.0 c.loop-place-test.false) ∙ c.loop-place.invariant.1
