use Rattle.std.proofs.Common.{◌≡◌, drop}
use Rattle.drv_arp.specs.Hears.{first_claim}
use Rattle.drv_arp.proofs.ours.callers_claim.Given as goal

abbrev pub invariant-loop-i : goal.invariant-loop-i
invariant-loop-i l = first_claim l.ip.0 (drop l.i l.children.live) ≡ first_claim l.ip.0 l.children.live
