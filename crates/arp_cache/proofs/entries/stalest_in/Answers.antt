use Rattle.arp_cache.proofs.Orders.{one_more}
use Rattle.arp_cache.proofs.entries.stalest_in.Goals as goal

pub loop-e-preserved : goal.loop-e-preserved
loop-e-preserved c =
    one_more _ c.args.entries.now c.loop-e.e-index c.loop-e.first c.staler_of-first.result _ c.loop-e-test.true c.staler_of-first.ensures
    c.loop-e.invariant
