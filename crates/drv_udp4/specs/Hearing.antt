-- Which children hear a datagram, and what it does to their tokens.
use Rattle.std.specs.Prelude.{ℕ, Bool, true, false, ◌==◌, ◌&&◌, List, [], ◌∷◌, ◌++◌, filter, Option, Some, None}
use Rattle.std.specs.List.{list_any}
use Rattle.efi_base.specs.declared.plain.Addr.{Addr}
use Rattle.efi_base.specs.declared.plain.Ip4.{Ip4}
use Rattle.efi_base.specs.declared.plain.Peer.{Peer}
use Rattle.efi_base.specs.declared.tokens.Ticket.{Ticket}
use Rattle.efi_base.specs.declared.tokens.End.TheVariants.{Success}
use Rattle.efi_book.specs.declared.children.Child.{Child}
use Rattle.efi_book.specs.Families.{Family}
use Rattle.efi_book.specs.Books.{Tokens, completed_with, oldest_kind_of}
use Rattle.efi_book.specs.Cores.{id_of}
use Rattle.wire_l4.specs.Datagram.{Datagram as Text}
use Rattle.wire_l4.specs.Seen.{datagram_seen}
use Rattle.drv_udp4.specs.declared.hearing.Arrival.{Arrival}
use Rattle.drv_udp4.specs.declared.work.UdpCfg.{UdpCfg}
use Rattle.drv_udp4.specs.declared.work.UdpWork.TheVariants.{Receive}
use Rattle.drv_udp4.specs.declared.work.Ask.{Ask}
use Rattle.drv_udp4.specs.Networks.{address_of, is_to}
use Rattle.drv_udp4.specs.Works.{kind_of_ask}

-- a datagram between two addresses, where the default address is this
pub record Heard : Type 0 where
  pub home : Option Addr
  pub src : Ip4
  pub dest : Ip4
  pub text : Text

abbrev pub arrival_seen : Arrival → Heard
arrival_seen a = record { home = a.home; src = a.src; dest = a.dest; text = datagram_seen a.udp }

-- the children of callers and the stack's own, each in the order of making
abbrev pub everyone : Family (Option UdpCfg) → List (Child (Option UdpCfg))
everyone f = f.live ++ f.own

-- it is the peer, where one is set
abbrev pub is_peer : Option Peer → ℕ → ℕ → Bool
is_peer None ip port = true
is_peer (Some p) ip port = p.addr.0 == ip && p.port == port

-- destination, ports and sender pass the child's test
abbrev pub hears : Heard → UdpCfg → Bool
hears h c = (is_to (address_of h.home c) c.broadcast h.dest.0 && c.port == h.text.dport) && is_peer c.peer h.src.0 h.text.sport

-- a child that isn't configured hears nothing
abbrev pub passes : Heard → Option UdpCfg → Bool
passes h None = false
passes h (Some c) = hears h c

abbrev pub is_for : Heard → Child (Option UdpCfg) → Bool
is_for h child = passes h child.value

-- for whom the datagram is
abbrev pub hearers : Heard → Family (Option UdpCfg) → List (Child (Option UdpCfg))
hearers h family = filter (is_for h) (everyone family)

-- it is for some child
abbrev pub any_hears : Heard → Family (Option UdpCfg) → Bool
any_hears h family = list_any (is_for h) (everyone family)

-- what a receive token that got it comes back with
abbrev pub got : Heard → Ask
got h = record {
  work = Receive (Some (record { src = h.src; sport = h.text.sport; dest = h.dest; payload = h.text.payload }));
  until = None;
}

abbrev pub filled : Heard → Option Ticket → Tokens Ask → Tokens Ask
filled h None ts = ts
filled h (Some ticket) ts = completed_with ts ticket Success (got h)

-- the child's oldest receive token, if it has one, ends with the datagram
abbrev pub given : Heard → Child (Option UdpCfg) → Tokens Ask → Tokens Ask
given h child ts = filled h (oldest_kind_of kind_of_ask ts (id_of child.serial) 2) ts

-- each of these children gets the datagram
abbrev pub all_given : Heard → List (Child (Option UdpCfg)) → Tokens Ask → Tokens Ask
all_given h [] ts = ts
all_given h (c ∷ cs) ts = all_given h cs (given h c ts)
