use Rattle.std.proofs.Common.{◌≡◌, drop}
use Rattle.drv_arp.specs.Asks.{least}
use Rattle.drv_arp.specs.Ticks.{next_of_all}
use Rattle.drv_arp.proofs.told.next_after.Given as goal

abbrev pub invariant-loop-p : goal.invariant-loop-p
invariant-loop-p l = least l.best (next_of_all l.moment.0 (drop l.p-index l.pending)) ≡ next_of_all l.moment.0 l.pending
