use Rattle.std.proofs.Common.{◌≡◌, drop}
use Rattle.drv_udp4.specs.Ticks.{least, next_of_all}
use Rattle.drv_udp4.proofs.waiting.next_after.Given as goal

abbrev pub invariant-loop-p : goal.invariant-loop-p
invariant-loop-p l = least l.best (next_of_all l.moment.0 (drop l.p-index l.pending)) ≡ next_of_all l.moment.0 l.pending
