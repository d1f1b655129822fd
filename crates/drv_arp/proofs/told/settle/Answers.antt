use Rattle.std.proofs.Common.{◌∙◌}
use Rattle.drv_arp.proofs.Walks.{settled_more}
use Rattle.drv_arp.proofs.told.settle.Goals as goal

pub loop-t-preserved : goal.loop-t-preserved
loop-t-preserved c = record {
  whole = settled_more _ c.args.answers.now c.loop-t.t-index c.loop-t.tokens c.complete_with.new.self _ c.loop-t-test.true
      c.complete_with.ensures.after c.loop-t.invariant.whole;
  keeps = λ o. c.complete_with.ensures.keeps o ∙ c.loop-t.invariant.keeps o;
}
