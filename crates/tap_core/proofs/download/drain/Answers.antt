-- Each move keeps what the receiver and the load stand for.
use Rattle.std.proofs.Common.{◌∙◌}
use Rattle.tap_core.proofs.download.drain.Goals as goal

pub returns-then-count-eq0-clause-carries : goal.returns-then-count-eq0-clause-carries
returns-then-count-eq0-clause-carries c = λ most board h. c.in_ok-count.ensures.carries most board (c.loop-count.invariant.carries most board h)

pub loop-count-preserved : goal.loop-count-preserved
loop-count-preserved c = record {
  carries = λ most board h. c.in_ok-count.ensures.carries most board (c.loop-count.invariant.carries most board h);
  irs_is = c.move_some.ensures.numbers.0 ∙ c.loop-count.invariant.irs_is;
  cap_is = c.move_some.ensures.numbers.1 ∙ c.loop-count.invariant.cap_is;
}
