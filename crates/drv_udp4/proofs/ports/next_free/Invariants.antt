use Rattle.std.proofs.Common.{◌≡◌, ◌+◌, ◌≤◌}
use Rattle.drv_udp4.specs.Hearing.{everyone}
use Rattle.drv_udp4.specs.Ports.{next_free}
use Rattle.drv_udp4.proofs.ports.next_free.Given as goal

abbrev pub invariant-loop-left : goal.invariant-loop-left
invariant-loop-left l = record {
  whole : next_free (everyone l.children) l.seed l.k l.left ≡ next_free (everyone l.children) l.seed l.first l.count;
  sum : l.k + l.left ≤ l.first + l.count;
}

abbrev pub decreases-loop-left : goal.decreases-loop-left
decreases-loop-left l = l.left
