use Rattle.std.proofs.Common.{◌≡◌, drop}
use Rattle.efi_timer.specs.Moments.{earlier, soonest}
use Rattle.efi_timer.proofs.timers.soonest_in.Given as goal

abbrev pub invariant-loop-t : goal.invariant-loop-t
invariant-loop-t l = earlier l.best (soonest (drop l.t-index l.timers)) ≡ soonest l.timers
