-- The values of the crate as contracts see them.
use Rattle.ip_cut.specs.declared.cut.Outgoing.{Outgoing}
use Rattle.ip_cut.specs.Cutting.{Sending}

-- a datagram to send, without where its payload lies in memory
abbrev pub sending_seen : Outgoing → Sending
sending_seen d = record {
  src = d.src.0;
  dest = d.dest.0;
  proto = d.proto;
  ttl = d.ttl;
  df = d.df;
  id = d.id;
  payload = d.payload.now;
}
