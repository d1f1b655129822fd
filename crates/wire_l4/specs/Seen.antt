-- The values of the crate as contracts see them.
use Rattle.wire_l4.specs.declared.datagram.Udp.{Udp}
use Rattle.wire_l4.specs.declared.segment.Tcp.{Tcp}
use Rattle.wire_l4.specs.Datagram.{Datagram}
use Rattle.wire_l4.specs.Segment.{Segment}

-- a segment without where it lies in memory
abbrev pub segment_seen : Tcp → Segment
segment_seen t = record {
  sport = t.sport;
  dport = t.dport;
  seq = t.seq;
  ack = t.ack;
  flags = t.flags;
  window = t.window;
  mss = t.mss;
  shift = t.shift;
  payload = t.payload.now;
}

abbrev pub datagram_seen : Udp → Datagram
datagram_seen u = record {
  sport = u.sport;
  dport = u.dport;
  payload = u.payload.now;
}
