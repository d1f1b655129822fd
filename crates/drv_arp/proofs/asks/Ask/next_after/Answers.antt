use Rattle.std.proofs.Common.{ap, ◌∙◌}
use Rattle.drv_arp.specs.Asks.{least}
use Rattle.drv_arp.proofs.Moments.{next_step}
use Rattle.drv_arp.proofs.asks.Ask.next_after.Goals as goal

pub loop-left-preserved : goal.loop-left-preserved
loop-left-preserved c =
    rw c.saturating_sub-at.ensures (
    next_step c.args.moment.0 c.loop-left.at c.args.self.now.gap c.loop-left.left c.loop-left.best c.least_of-best.result _ c.loop-left-test.true
    (c.least_of-best.ensures ∙ ap (λ o. least c.loop-left.best o) c.later.ensures)
    c.loop-left.invariant
    )
