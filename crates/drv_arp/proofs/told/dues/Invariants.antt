use Rattle.std.proofs.Common.{◌≡◌, ◌++◌, drop, filter_map}
use Rattle.drv_arp.specs.Ticks.{due_of}
use Rattle.drv_arp.proofs.told.dues.Given as goal

abbrev pub invariant-loop-p : goal.invariant-loop-p
invariant-loop-p l = l.found.items ++ filter_map (due_of l.m.0) (drop l.p-index l.pending) ≡ filter_map (due_of l.m.0) l.pending
