-- The values of the crate as contracts see them.
use Rattle.wire_ip4.specs.declared.message.Icmp.{Icmp}
use Rattle.wire_ip4.specs.declared.packet.Ip.{Ip}
use Rattle.wire_ip4.specs.Message.{IcmpMessage}
use Rattle.wire_ip4.specs.Packet.{Packet}

-- a packet without where it lies in memory
abbrev pub packet_seen : Ip → Packet
packet_seen p = record {
  src = p.src.0;
  dest = p.dest.0;
  proto = p.proto;
  id = p.id;
  df = p.df;
  mf = p.mf;
  place = p.place;
  ttl = p.ttl;
  payload = p.payload.now;
}

-- a message without where it lies in memory
abbrev pub message_seen : Icmp → IcmpMessage
message_seen m = record { kind = m.kind; code = m.code; rest = m.rest; payload = m.payload.now }
