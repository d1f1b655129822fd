-- Answers by ICMP (RFC 792): echo replies, and that a port takes no datagram.
use Rattle.std.specs.Prelude.{ℕ, Bool, false, ◌&&◌, ◌==◌, List, ◌++◌, length, take, replicate, min, Option, Some, None, if◌then◌else◌}
use Rattle.efi_base.specs.declared.units.IpPacket.{IpPacket}
use Rattle.ip_core.specs.Pools.{Datagram}
use Rattle.wire_ip4.specs.Message.{IcmpMessage, message_of, message_text}
use Rattle.wire_ip4.specs.Packet.{Packet, packet_text}
use Rattle.drv_ip4.specs.declared.icmp.Heard.{Heard}
use Rattle.drv_ip4.specs.declared.icmp.Quote.{Quote}
use Rattle.drv_ip4.specs.declared.sending.Letter.{Letter}
use Rattle.drv_ip4.specs.Nets.{Place, is_station}
use Rattle.drv_ip4.specs.Sendings.{mail}

-- what is kept of a datagram: itself, and what a message would quote of it
abbrev pub heard_of : Datagram → Heard
heard_of d = record {
  packet = record { src = record { 0 = d.src }; dest = record { 0 = d.dest }; proto = d.proto; payload = d.payload };
  quote = record { src = record { 0 = d.src }; dest = record { 0 = d.dest }; proto = d.proto; id = d.id; size = length d.payload; front = take 8 d.payload };
}

-- an echo request is of type 8 and code 0
abbrev pub is_request : IcmpMessage → Bool
is_request m = m.kind == 8 && m.code == 0

-- its reply is of type 0, with the same identifier, sequence number and data
abbrev pub reply_text : IcmpMessage → List ℕ
reply_text m = message_text (record { kind = 0; code = 0; rest = m.rest; payload = m.payload })

abbrev pub reply_by : IpPacket → Option IcmpMessage → Option Letter
reply_by d None = None
reply_by d (Some m) = if is_request m then Some (mail d.dest None d.src 1 (reply_text m)) else None

-- the answer to a datagram: an echo request to a station address has one, from that address
abbrev pub answer_to : Place → IpPacket → Option Letter
answer_to n d = if d.proto == 1 && is_station n d.dest.0 then reply_by d (message_of d.payload) else None

-- A header written anew for the datagram: with time to live 64, no flags and place 0. Of the payload it tells the length
-- alone, so zeros stand for it, and its text is the first 20 octets.
abbrev pub quoted_packet : Quote → Packet
quoted_packet q = record {
  src = q.src.0;
  dest = q.dest.0;
  proto = q.proto;
  id = q.id;
  df = false;
  mf = false;
  place = 0;
  ttl = 64;
  payload = replicate (min q.size 65515) 0;
}

-- the header and the first eight octets of the payload
abbrev pub quote_text : Quote → List ℕ
quote_text q = take 20 (packet_text (quoted_packet q)) ++ q.front

-- destination unreachable is of type 3, and code 3 says that the port is
abbrev pub unreachable_text : Quote → List ℕ
unreachable_text q = message_text (record { kind = 3; code = 3; rest = 0; payload = quote_text q })

-- the message for a datagram that went to a station address, from that address to its source
abbrev pub unreachable_to : Place → Option Quote → Option Letter
unreachable_to n None = None
unreachable_to n (Some q) = if is_station n q.dest.0 then Some (mail q.dest None q.src 1 (unreachable_text q)) else None
