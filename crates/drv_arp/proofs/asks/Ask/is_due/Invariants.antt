use Rattle.std.proofs.Common.{◌≡◌}
use Rattle.drv_arp.specs.Asks.{is_in, is_due, moments}
use Rattle.drv_arp.proofs.asks.Ask.is_due.Given as goal

abbrev pub invariant-loop-left : goal.invariant-loop-left
invariant-loop-left l = is_in l.m.0 (moments l.at l.gap l.left) ≡ is_due l.m.0 l.self

abbrev pub decreases-loop-left : goal.decreases-loop-left
decreases-loop-left l = l.left
