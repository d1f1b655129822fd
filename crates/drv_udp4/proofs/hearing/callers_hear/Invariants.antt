use Rattle.std.proofs.Common.{◌≡◌, drop}
use Rattle.std.specs.List.{list_any}
use Rattle.drv_udp4.specs.Hearing.{arrival_seen, is_for}
use Rattle.drv_udp4.proofs.hearing.callers_hear.Given as goal

abbrev pub invariant-loop-i : goal.invariant-loop-i
invariant-loop-i l = list_any (is_for (arrival_seen l.a)) (drop l.i l.children.live) ≡ list_any (is_for (arrival_seen l.a)) l.children.live
