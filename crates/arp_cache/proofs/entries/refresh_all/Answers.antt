use Rattle.arp_cache.specs.Entries.{refreshed}
use Rattle.arp_cache.proofs.Walks.{map_step}
use Rattle.arp_cache.proofs.entries.refresh_all.Goals as goal

pub loop-e-preserved : goal.loop-e-preserved
loop-e-preserved c =
    map_step (refreshed c.args.ip c.args.mac c.args.now) _ c.args.entries.now c.loop-e.entries c.loop-e.e-index c.refresh.new.e c.loop-e-test.true
    c.loop-e.invariant c.refresh.ensures
