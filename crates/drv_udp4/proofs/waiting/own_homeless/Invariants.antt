use Rattle.std.proofs.Common.{◌≡◌, drop}
use Rattle.std.specs.List.{list_any}
use Rattle.drv_udp4.specs.Udps.{is_homeless_child}
use Rattle.drv_udp4.proofs.waiting.own_homeless.Given as goal

abbrev pub invariant-loop-i : goal.invariant-loop-i
invariant-loop-i l = list_any (is_homeless_child l.serial) (drop l.i l.children.own) ≡ list_any (is_homeless_child l.serial) l.children.own
