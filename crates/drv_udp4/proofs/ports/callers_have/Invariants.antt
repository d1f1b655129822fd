use Rattle.std.proofs.Common.{◌≡◌, drop}
use Rattle.std.specs.List.{list_any}
use Rattle.drv_udp4.specs.Ports.{has_port}
use Rattle.drv_udp4.proofs.ports.callers_have.Given as goal

abbrev pub invariant-loop-i : goal.invariant-loop-i
invariant-loop-i l = list_any (has_port l.port) (drop l.i l.children.live) ≡ list_any (has_port l.port) l.children.live
