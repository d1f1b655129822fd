use Rattle.std.proofs.Common.{◌≡◌, drop}
use Rattle.drv_ip4.specs.Nets.{all_without}
use Rattle.drv_ip4.proofs.net.remove_all.Given as goal

-- those from here on are still to go
abbrev pub invariant-loop-r : goal.invariant-loop-r
invariant-loop-r l = all_without (drop l.r-index l.gone) l.routes ≡ all_without l.gone l.initial.routes
