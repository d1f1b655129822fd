use Rattle.std.proofs.Common.{◌≡◌, drop}
use Rattle.std.specs.List.{list_any}
use Rattle.drv_udp4.specs.Ports.{is_barred_by}
use Rattle.drv_udp4.proofs.ports.own_bars.Given as goal

abbrev pub invariant-loop-i : goal.invariant-loop-i
invariant-loop-i l = list_any (is_barred_by l.home l.c) (drop l.i l.children.own) ≡ list_any (is_barred_by l.home l.c) l.children.own
