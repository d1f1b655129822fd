use Rattle.std.proofs.Common.{◌≡◌}
use Rattle.drv_arp.specs.Asks.{least, moments, next_in, next_of_ask}
use Rattle.drv_arp.proofs.asks.Ask.next_after.Given as goal

abbrev pub invariant-loop-left : goal.invariant-loop-left
invariant-loop-left l = least l.best (next_in l.moment.0 (moments l.at l.gap l.left)) ≡ next_of_ask l.moment.0 l.self

abbrev pub decreases-loop-left : goal.decreases-loop-left
decreases-loop-left l = l.left
