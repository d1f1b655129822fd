use Rattle.std.proofs.Common.{◌≡◌, ◌+◌, ◌*◌, ◌≤◌, drop}
use Rattle.tcp_send.specs.Flight.{octets_of}
use Rattle.tcp_send.proofs.flight.octets_of.Given as goal

abbrev pub invariant-loop-segment : goal.invariant-loop-segment
invariant-loop-segment l = record {
  sum : l.octets + octets_of (drop l.segment-index l.flight) ≡ octets_of l.flight;
  bound : l.octets ≤ 65535 * l.segment-index;
}
