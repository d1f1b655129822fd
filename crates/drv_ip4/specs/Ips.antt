-- The driver as contracts see it, and what its calls answer and leave.
use Rattle.std.specs.Prelude.{ℕ, List, [], Option, Some, None, Bool, not, if◌then◌else◌}
use Rattle.efi_base.specs.declared.plain.Addr.{Addr}
use Rattle.efi_base.specs.declared.plain.Ip4.{Ip4}
use Rattle.efi_base.specs.declared.tokens.Ticket.{Ticket}
use Rattle.efi_base.specs.declared.tokens.Owner.{Owner}
use Rattle.efi_base.specs.declared.tokens.Proto.{Proto}
use Rattle.efi_base.specs.declared.tokens.End.{End}
use Rattle.efi_base.specs.declared.refuse.Refuse.{Refuse}
use Rattle.efi_base.specs.declared.units.IpPacket.{IpPacket}
use Rattle.efi_base.specs.Refusals.{first_of}
use Rattle.efi_book.specs.Families.{handle_refusal, is_callers}
use Rattle.efi_book.specs.Books.{accept_refusal, completed, work_of}
use Rattle.efi_book.specs.Cores.{Drive, start, id_of, cfg_of, configure_refusal, in_tokens, posted}
use Rattle.std.specs.Option.{option_map}
use Rattle.ip_core.specs.Bytes.{Bytes, bytes_kept}
use Rattle.ip_core.specs.Pools.{Pool, after_packet, datagram_at}
use Rattle.wire_ip4.specs.Packet.{Packet}
use Rattle.drv_ip4.specs.declared.icmp.Heard.{Heard}
use Rattle.drv_ip4.specs.declared.icmp.Quote.{Quote}
use Rattle.drv_ip4.specs.declared.sending.Letter.{Letter}
use Rattle.drv_ip4.specs.declared.work.Hop.{Hop}
use Rattle.drv_ip4.specs.declared.work.IpCfg.{IpCfg}
use Rattle.drv_ip4.specs.declared.work.IpTx.{IpTx}
use Rattle.drv_ip4.specs.declared.work.IpWork.{IpWork}
use Rattle.drv_ip4.specs.declared.work.IpWork.TheVariants.{Transmit, Receive}
use Rattle.drv_ip4.specs.declared.work.Sending.{Sending}
use Rattle.drv_ip4.specs.Works.{cfg_fault, is_transmit}
use Rattle.drv_ip4.specs.Lost.{lost_with}
use Rattle.drv_ip4.specs.Nets.{Place, address_used, nowhere, settled}
use Rattle.drv_ip4.specs.Hearing.{all_given, hearers}
use Rattle.drv_ip4.specs.Icmps.{answer_to, heard_of, unreachable_to}
use Rattle.drv_ip4.specs.Sendings.{answer_counted, answered_down, counted, down, draft_of, hop_from, mail, ticket_at, waiting, work_refusal}

-- children with their configurations, tokens, and what is handed down; where the station is; the pools of fragments; and
-- of the datagram that the last packet made whole, the datagram until it is taken, and what an answer would quote of it
pub record IpState : Type 0 where
  pub drive : Drive IpCfg IpWork Sending
  pub net : Place
  pub pools : List (Pool Bytes)
  pub packet : Option IpPacket
  pub quote : Option Quote

abbrev pub new_state : ℕ → IpState
new_state own = record { drive = start own; net = nowhere; pools = []; packet = None; quote = None }

abbrev pub in_drive : IpState → Drive IpCfg IpWork Sending → IpState
in_drive s drive = record { drive = drive; net = s.net; pools = s.pools; packet = s.packet; quote = s.quote }

abbrev pub in_net : IpState → Place → IpState
in_net s net = record { drive = s.drive; net = net; pools = s.pools; packet = s.packet; quote = s.quote }

abbrev pub in_pools : IpState → List (Pool Bytes) → IpState
in_pools s pools = record { drive = s.drive; net = s.net; pools = pools; packet = s.packet; quote = s.quote }

abbrev pub with_last : IpState → Option IpPacket → Option Quote → IpState
with_last s packet quote = record { drive = s.drive; net = s.net; pools = s.pools; packet = packet; quote = quote }

-- why a child isn't configured: for its handle and state, and then for what it gets
abbrev pub new_cfg_fault : Option IpCfg → Bool → Option Refuse
new_cfg_fault None own = None
new_cfg_fault (Some cfg) own = cfg_fault cfg own

abbrev pub ip_configure_refusal : IpState → ℕ → ℕ → Option IpCfg → Option Refuse
ip_configure_refusal s key serial cfg =
    first_of (configure_refusal s.drive key serial cfg) (new_cfg_fault cfg (not (is_callers s.drive.family key serial)))

-- why a token isn't taken in, but for want of memory
abbrev pub post_refusal : IpState → ℕ → ℕ → Owner → IpWork → Option Refuse
post_refusal s key serial owner work =
    first_of
    (handle_refusal s.drive.family key serial)
    (first_of
    (work_refusal s.net (cfg_of s.drive key serial) work)
    (accept_refusal s.drive.tokens (id_of serial) owner))

-- the datagram goes down to this hop
abbrev pub handed : IpState → Option Hop → Letter → IpState
handed s hop l = in_net (in_drive s (down s.drive hop l s.net.next)) (counted s.net hop)

-- a transmit hands its datagram down at once, under its ticket
abbrev pub tx_posted : IpState → Addr → ℕ → Owner → IpTx → IpState
tx_posted s own serial owner tx =
    handed (in_drive s (posted s.drive serial owner (Transmit tx))) (hop_from s.net own tx.dest.0)
    (waiting (draft_of own tx tx.payload) (ticket_at s.drive.tokens.next))

-- one more token of a child with this address
abbrev pub posted_at : IpState → Option Addr → ℕ → Owner → IpWork → IpState
posted_at s own serial owner (Receive got) = in_drive s (posted s.drive serial owner (Receive got))
posted_at s None serial owner (Transmit tx) = s
posted_at s (Some own) serial owner (Transmit tx) = tx_posted s own serial owner tx

abbrev pub address_of : Option Addr → Option IpCfg → Option Addr
address_of home None = None
address_of home (Some cfg) = address_used home cfg

-- one more token
abbrev pub token_posted : IpState → ℕ → ℕ → Owner → IpWork → IpState
token_posted s key serial owner work = posted_at s (address_of s.net.home (cfg_of s.drive key serial)) serial owner work

-- the datagram of this ticket went, or can't go: the transmit token ends so, if it is pending
abbrev pub datagram_sent : IpState → Ticket → End → IpState
datagram_sent s ticket end =
    if is_transmit (work_of s.drive.tokens ticket)
    then in_drive s (in_tokens s.drive (completed s.drive.tokens ticket end))
    else s

-- to whom a datagram goes from this address, or nowhere without one
abbrev pub hop_or_none : Place → Option Addr → ℕ → Option Hop
hop_or_none n None dest = None
hop_or_none n (Some own) dest = hop_from n own dest

-- a datagram of another protocol of the station goes down; without an address it is dropped
abbrev pub mailed : IpState → Option Addr → Option (Proto × Ticket) → Ip4 → ℕ → List ℕ → IpState
mailed s None waits dest proto payload = s
mailed s (Some own) waits dest proto payload = handed s (hop_from s.net own dest.0) (mail own.ip waits dest proto payload)

-- another default address, or none
abbrev pub default_set : IpState → Option Addr → IpState
default_set s a = in_net (in_drive s (in_tokens s.drive (lost_with s.net.home s.drive.family s.drive.tokens))) (settled s.net a)

-- an answer goes down
abbrev pub answered : IpState → Option Letter → IpState
answered s l = in_net (in_drive s (answered_down s.drive s.net l)) (answer_counted s.net l)

-- the oldest receive token of each child that hears the datagram ends with it
abbrev pub given_down : Drive IpCfg IpWork Sending → Place → IpPacket → Drive IpCfg IpWork Sending
given_down s n d = in_tokens s (all_given d (hearers n.home d s.family) s.tokens)

-- the datagram is kept; its hearers get it; and an echo request is answered
abbrev pub heard_by : IpState → Option Heard → IpState
heard_by s None = with_last s None None
heard_by s (Some h) = with_last (answered (in_drive s (given_down s.drive s.net h.packet)) (answer_to s.net h.packet)) (Some h.packet) (Some h.quote)

-- a packet was heard: the datagram that exists at it, if there is one, is heard; the one before is forgotten
abbrev pub packet_heard : IpState → ℕ → Packet → IpState
packet_heard s now p =
    heard_by (in_pools s (after_packet bytes_kept s.pools now p)) (option_map heard_of (datagram_at bytes_kept s.pools now p))

-- the source of the datagram that was heard last is told that its port takes no datagram
abbrev pub told_unreachable : IpState → IpState
told_unreachable s = answered s (unreachable_to s.net s.quote)
