use Rattle.std.proofs.Common.{◌≡◌, ◌+◌, ◌≤◌, ◌^◌, length}
use Rattle.tcp_send.specs.Flight.{octets_of, left_of}
use Rattle.tcp_send.proofs.flight.release.Given as goal

abbrev pub invariant-loop-segment : goal.invariant-loop-segment
invariant-loop-segment l = record {
  left : left_of l.una l.base l.flight.items ≡ left_of l.una l.initial.base l.initial.flight.items;
  bound : l.base + octets_of l.flight.items + 1 ≤ 2 ^ 63;
}

abbrev pub decreases-loop-segment : goal.decreases-loop-segment
decreases-loop-segment l = length l.flight.items
