-- The driver as contracts see it, and what its calls answer and leave.
use Rattle.std.specs.Prelude.{ℕ, ◌+◌, ◌%◌, Bool, false, ◌==◌, ◌&&◌, not, is_none, List, [], filter, Option, Some, None, option_map, if◌then◌else◌}
use Rattle.std.specs.List.{list_any}
use Rattle.efi_base.specs.Refusals.{first_of, refuse_if}
use Rattle.efi_base.specs.declared.plain.Addr.{Addr}
use Rattle.efi_base.specs.declared.plain.Tick.{Tick}
use Rattle.efi_base.specs.declared.refuse.Refuse.{Refuse}
use Rattle.efi_base.specs.declared.refuse.Refuse.TheVariants.{NoMapping, NotReady, NotStarted}
use Rattle.efi_base.specs.declared.tokens.End.{End}
use Rattle.efi_base.specs.declared.tokens.End.TheVariants.{NoMapping as NoMappingEnd}
use Rattle.efi_base.specs.declared.tokens.Owner.{Owner}
use Rattle.efi_base.specs.declared.tokens.Proto.TheVariants.{Udp4}
use Rattle.efi_base.specs.declared.tokens.Ticket.{Ticket}
use Rattle.efi_base.specs.declared.units.IpPacket.{IpPacket}
use Rattle.ip_core.specs.declared.routes.Route.{Route}
use Rattle.wire_l4.specs.Datagram.{Datagram as Text, datagram_of, datagram_text}
use Rattle.efi_book.specs.declared.children.Child.{Child}
use Rattle.efi_book.specs.declared.ends.Done.{Done}
use Rattle.efi_book.specs.declared.ends.Pending.{Pending}
use Rattle.efi_book.specs.declared.ends.Raised.{Raised}
use Rattle.efi_book.specs.Families.{Family, handle_refusal, is_callers}
use Rattle.efi_book.specs.Books.{accept_refusal, completed, work_of}
use Rattle.efi_book.specs.Outboxes.{asked}
use Rattle.efi_book.specs.Cores.{Drive, start, id_of, cfg_of, configure_refusal, configured, in_tokens, in_outbox, posted}
use Rattle.drv_udp4.specs.declared.sending.Source.{Source}
use Rattle.drv_udp4.specs.declared.icmp.Quote.{Quote}
use Rattle.drv_udp4.specs.declared.work.UdpCfg.{UdpCfg}
use Rattle.drv_udp4.specs.declared.work.UdpOut.{UdpOut}
use Rattle.drv_udp4.specs.declared.work.UdpTx.{UdpTx}
use Rattle.drv_udp4.specs.declared.work.UdpWork.{UdpWork}
use Rattle.drv_udp4.specs.declared.work.UdpWork.TheVariants.{Transmit, Receive}
use Rattle.drv_udp4.specs.declared.work.Ask.{Ask}
use Rattle.drv_udp4.specs.Hearing.{Heard, all_given, any_hears, everyone, hearers}
use Rattle.drv_udp4.specs.Networks.{address_of}
use Rattle.drv_udp4.specs.Ports.{next_free, port_at, with_port}
use Rattle.drv_udp4.specs.Refusing.{cfg_refusal, work_refusal}
use Rattle.efi_book.specs.Rounds.{all_ended}
use Rattle.drv_udp4.specs.Unreached.{all_refused, is_senders, quoted}
use Rattle.drv_udp4.specs.Works.{ask_of, is_transmit}

-- children with their configurations, tokens and messages; the seed of ports, and how many of them were tried, counted
-- round after 16,384; the default address; the routes; and the moment
pub record UdpState : Type 0 where
  pub drive : Drive UdpCfg Ask UdpOut
  pub seed : ℕ
  pub tried : ℕ
  pub home : Option Addr
  pub routes : List Route
  pub moment : Tick

abbrev pub new_state : ℕ → ℕ → UdpState
new_state own seed = record { drive = start own; seed = seed; tried = 0; home = None; routes = []; moment = record { 0 = 0 } }

abbrev pub in_drive : UdpState → Drive UdpCfg Ask UdpOut → UdpState
in_drive s d = record { drive = d; seed = s.seed; tried = s.tried; home = s.home; routes = s.routes; moment = s.moment }

abbrev pub in_tried : UdpState → ℕ → UdpState
in_tried s n = record { drive = s.drive; seed = s.seed; tried = n; home = s.home; routes = s.routes; moment = s.moment }

abbrev pub in_home : UdpState → Option Addr → UdpState
in_home s home = record { drive = s.drive; seed = s.seed; tried = s.tried; home = home; routes = s.routes; moment = s.moment }

abbrev pub in_routes : UdpState → List Route → UdpState
in_routes s routes = record { drive = s.drive; seed = s.seed; tried = s.tried; home = s.home; routes = routes; moment = s.moment }

-- the number of the port that is chosen next
abbrev pub choice : UdpState → Option ℕ
choice s = next_free (everyone s.drive.family) s.seed s.tried 16384

-- why a child isn't configured: for its handle and state, then for what it gets, and last for want of ports
abbrev pub new_cfg_refusal : UdpState → Bool → Option UdpCfg → Option Refuse
new_cfg_refusal s own None = None
new_cfg_refusal s own (Some c) =
    first_of (cfg_refusal s.home s.drive.family own c) (refuse_if (c.port == 0 && is_none (choice s)) NotReady)

abbrev pub udp_configure_refusal : UdpState → ℕ → ℕ → Option UdpCfg → Option Refuse
udp_configure_refusal s key serial c =
    first_of (configure_refusal s.drive key serial c) (new_cfg_refusal s (not (is_callers s.drive.family key serial)) c)

-- the child gets the port of this number
abbrev pub chosen : UdpState → ℕ → ℕ → UdpCfg → Option ℕ → UdpState
chosen s key serial c None = s
chosen s key serial c (Some k) =
    in_tried (in_drive s (configured s.drive key serial (Some (with_port c (port_at s.seed k))))) ((k + 1) % 16384)

abbrev pub udp_configured : UdpState → ℕ → ℕ → Option UdpCfg → UdpState
udp_configured s key serial None = in_drive s (configured s.drive key serial None)
udp_configured s key serial (Some c) =
    if c.port == 0 then chosen s key serial c (choice s) else in_drive s (configured s.drive key serial (Some c))

-- a child that uses the default address
abbrev pub is_homeless : Option UdpCfg → Bool
is_homeless None = false
is_homeless (Some c) = is_none c.at

abbrev pub is_homeless_child : ℕ → Child (Option UdpCfg) → Bool
is_homeless_child serial c = c.serial == serial && is_homeless c.value

-- a token of such a child
abbrev pub uses_home : Family (Option UdpCfg) → Pending Ask → Bool
uses_home f p = list_any (is_homeless_child p.child.0) (everyone f)

abbrev pub home_ended : Option Addr → UdpState → UdpState
home_ended None s = s
home_ended (Some a) s = in_drive s (in_tokens s.drive (all_ended (uses_home s.drive.family) NoMappingEnd s.drive.tokens))

-- the default address is this; the tokens that used one that stood till then have ended
abbrev pub learned : UdpState → Option Addr → UdpState
learned s home = in_home (home_ended s.home s) home

-- from where a child sends: its configuration, and its address
abbrev pub source_by : Option Addr → Option UdpCfg → Option Source
source_by home None = None
source_by home (Some c) = option_map (λ (a : Addr). record { cfg = c; addr = a }) (address_of home c)

abbrev pub source_of : UdpState → ℕ → ℕ → Option Source
source_of s key serial = source_by s.home (cfg_of s.drive key serial)

abbrev pub source_refusal : UdpState → ℕ → ℕ → Option Refuse
source_refusal s key serial =
    first_of
    (handle_refusal s.drive.family key serial)
    (first_of
    (refuse_if (is_none (cfg_of s.drive key serial)) NotStarted)
    (refuse_if (is_none (source_of s key serial)) NoMapping))

abbrev pub source_work_refusal : List Route → Option Source → UdpWork → Option Refuse
source_work_refusal routes None work = None
source_work_refusal routes (Some from) work = work_refusal routes from.addr work

-- why a token isn't taken in, but for want of memory
abbrev pub post_refusal : UdpState → ℕ → ℕ → Owner → UdpWork → Option Refuse
post_refusal s key serial owner work =
    first_of
    (source_refusal s key serial)
    (first_of
    (source_work_refusal s.routes (source_of s key serial) work)
    (accept_refusal s.drive.tokens (id_of serial) owner))

-- the message that asks for a datagram to be sent
abbrev pub out_of : Source → ℕ → UdpTx → UdpOut
out_of from ticket tx = record {
  waits = Some (Udp4, record { 0 = ticket });
  from = from.cfg.at;
  dest = tx.dest;
  text = datagram_text from.addr.ip.0 tx.dest.0 (record { sport = from.cfg.port; dport = tx.port; payload = tx.payload });
}

-- a transmit asks for its datagram at once, under its ticket; a receive asks for nothing
abbrev pub demanded : UdpState → Source → ℕ → UdpWork → UdpState
demanded s from ticket (Transmit tx) = in_drive s (in_outbox s.drive (asked s.drive.outbox (out_of from ticket tx)))
demanded s from ticket (Receive got) = s

abbrev pub posted_from : UdpState → ℕ → Owner → UdpWork → Option Source → UdpState
posted_from s serial owner work None = s
posted_from s serial owner work (Some from) =
    demanded (in_drive s (posted s.drive serial owner (ask_of s.moment from.cfg.timeout work))) from s.drive.tokens.next work

-- one more token
abbrev pub token_posted : UdpState → ℕ → ℕ → Owner → UdpWork → UdpState
token_posted s key serial owner work = posted_from s serial owner work (source_of s key serial)

-- the sending of a datagram came to its end: the transmit token of this ticket ends so, if it is pending
abbrev pub datagram_sent : UdpState → Ticket → End → UdpState
datagram_sent s t end =
    if is_transmit (work_of s.drive.tokens t)
    then in_drive s (in_tokens s.drive (completed s.drive.tokens t end))
    else s

abbrev pub heard_text : UdpState → IpPacket → Text → Heard
heard_text s p d = record { home = s.home; src = p.src; dest = p.dest; text = d }

-- the datagram was heard: the oldest receive token of each child that it is for ends with it. Octets that are no
-- datagram change nothing
abbrev pub heard_as : UdpState → IpPacket → Option Text → UdpState
heard_as s p None = s
heard_as s p (Some d) =
    in_drive s (in_tokens s.drive (all_given (heard_text s p d) (hearers (heard_text s p d) s.drive.family) s.drive.tokens))

abbrev pub text_of : IpPacket → Option Text
text_of p = datagram_of p.src.0 p.dest.0 p.payload

abbrev pub heard : UdpState → IpPacket → UdpState
heard s p = heard_as s p (text_of p)

-- some child hears it
abbrev pub is_heard_as : UdpState → IpPacket → Option Text → Bool
is_heard_as s p None = false
is_heard_as s p (Some d) = any_hears (heard_text s p d) s.drive.family

abbrev pub is_heard : UdpState → IpPacket → Bool
is_heard s p = is_heard_as s p (text_of p)

-- it is a datagram that no child hears
abbrev pub is_stray : UdpState → IpPacket → Bool
is_stray s p = not (is_none (text_of p)) && not (is_heard s p)

-- the message was heard: the oldest receive token of each caller's child whose datagram it quotes ends
abbrev pub refused_as : UdpState → Option Quote → UdpState
refused_as s None = s
refused_as s (Some q) = in_drive s (in_tokens s.drive (all_refused (filter (is_senders s.home q) s.drive.family.live) s.drive.tokens))

abbrev pub told_refused : UdpState → IpPacket → UdpState
told_refused s p = refused_as s (quoted p.payload)

-- an ended token with its work alone
abbrev pub done_of : Done Ask → Done UdpWork
done_of d = record { ticket = d.ticket; child = d.child; token = d.token; end = d.end; work = d.work.work }

abbrev pub raised_of : Raised Ask → Raised UdpWork
raised_of d = record { ticket = d.ticket; child = d.child; proto = d.proto; waits = d.waits; end = d.end; work = d.work.work }
