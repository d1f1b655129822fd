-- What a datagram is sent as over a link that carries 1,500 octets (RFC 791, section 3.2; RFC 894): one packet, or fragments.
use Rattle.std.specs.Prelude.{ℕ, zero, suc, ◌+◌, ◌-◌, ◌/◌, Bool, true, false, List, [], ◌∷◌, length, take, drop, map, Option, Some, None}
use Rattle.wire_ip4.specs.Packet.{Packet}
use Rattle.ip_core.specs.Pools.{Datagram}
use Rattle.ip_core.specs.Datagrams.{Event, heard}

-- a datagram to send: addresses, protocol, time to live, don't-fragment, identification, and the payload
pub record Sending : Type 0 where
  pub src : ℕ
  pub dest : ℕ
  pub proto : ℕ
  pub ttl : ℕ
  pub df : Bool
  pub id : ℕ
  pub payload : List ℕ

-- how often a payload of so many octets is cut, so that each part has at most 1,480 of them and only the last one fewer: 1,500
-- less the 20 of a header, and a multiple of 8
abbrev pub cuts_of : ℕ → ℕ
cuts_of len = (len - 1) / 1480

-- the packet with a part of the payload, which stands at this place of the datagram; more follow, or none
abbrev pub packet_with : Sending → Bool → ℕ → List ℕ → Packet
packet_with d more place bytes = record {
  src = d.src;
  dest = d.dest;
  proto = d.proto;
  id = d.id;
  df = d.df;
  mf = more;
  place = place;
  ttl = d.ttl;
  payload = bytes;
}

-- the packets of octets that are cut so often, where each but the last has so many of them, and the first stands at this place
abbrev pub cut_from : ℕ → Sending → ℕ → ℕ → List ℕ → List Packet
cut_from most d place zero bytes = packet_with d false place bytes ∷ []
cut_from most d place (suc cuts) bytes =
    packet_with d true place (take most bytes) ∷ cut_from most d (place + most) cuts (drop most bytes)

-- the packets that a datagram is sent as
abbrev pub packets_of : Sending → List Packet
packets_of d = cut_from 1480 d 0 (cuts_of (length d.payload)) d.payload

-- the datagram that its receiver is to have
abbrev pub datagram_sent : Sending → Datagram
datagram_sent d = record { src = d.src; dest = d.dest; proto = d.proto; id = d.id; payload = d.payload }

-- these packets are heard at one tick, in order
abbrev pub all_heard : ℕ → List Packet → List Event
all_heard now ps = map (λ p. heard now p) ps

-- nothing at each packet but the last one, and the datagram at that
abbrev pub at_last : ℕ → Datagram → List (Option Datagram)
at_last zero d = Some d ∷ []
at_last (suc n) d = None ∷ at_last n d
