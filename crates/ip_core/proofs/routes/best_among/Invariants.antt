use Rattle.std.proofs.Common.{◌≡◌, take}
use Rattle.ip_core.specs.Routing.{best_of}
use Rattle.ip_core.proofs.routes.best_among.Given as goal

abbrev pub invariant-loop-r : goal.invariant-loop-r
invariant-loop-r l = l.best ≡ best_of l.dest.0 (take l.r-index l.routes)
