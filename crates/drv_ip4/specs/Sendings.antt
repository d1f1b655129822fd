-- What is handed down: a datagram to a hop, under the next identification.
use Rattle.std.specs.Prelude.{ℕ, List, Option, Some, None, Bool, true, false}
use Rattle.efi_base.specs.declared.plain.Addr.{Addr}
use Rattle.efi_base.specs.declared.plain.Ip4.{Ip4}
use Rattle.efi_base.specs.declared.tokens.Ticket.{Ticket}
use Rattle.efi_base.specs.declared.tokens.Proto.{Proto}
use Rattle.efi_base.specs.declared.tokens.Proto.TheVariants.{Ip4 as IpProto}
use Rattle.efi_base.specs.declared.refuse.Refuse.{Refuse}
use Rattle.efi_base.specs.declared.refuse.Refuse.TheVariants.{NotStarted, NoMapping, NoRoute}
use Rattle.efi_base.specs.Addresses.{is_broadcast}
use Rattle.efi_base.specs.Refusals.{first_of, refuse_if}
use Rattle.efi_book.specs.Outboxes.{asked}
use Rattle.efi_book.specs.Cores.{Drive, in_outbox}
use Rattle.drv_ip4.specs.declared.sending.Letter.{Letter}
use Rattle.drv_ip4.specs.declared.work.Hop.{Hop}
use Rattle.drv_ip4.specs.declared.work.IpCfg.{IpCfg}
use Rattle.drv_ip4.specs.declared.work.IpTx.{IpTx}
use Rattle.drv_ip4.specs.declared.work.IpWork.{IpWork}
use Rattle.drv_ip4.specs.declared.work.IpWork.TheVariants.{Transmit, Receive}
use Rattle.drv_ip4.specs.declared.work.Sending.{Sending}
use Rattle.drv_ip4.specs.Works.{tx_fault}
use Rattle.drv_ip4.specs.Nets.{Place, address_used, hop_by, is_everyones, with_next}

-- the datagram to this hop, under this identification
abbrev pub sending_of : Letter → Hop → ℕ → Sending
sending_of l hop id = record {
  waits = l.waits;
  hop = hop;
  src = l.src;
  dest = l.dest;
  proto = l.proto;
  ttl = l.ttl;
  df = l.df;
  id = id;
  payload = l.payload;
}

-- it is put behind the others; without a hop it is dropped
abbrev pub down : Drive IpCfg IpWork Sending → Option Hop → Letter → ℕ → Drive IpCfg IpWork Sending
down s None l id = s
down s (Some hop) l id = in_outbox s (asked s.outbox (sending_of l hop id))

-- what is dropped uses no identification
abbrev pub counted : Place → Option Hop → Place
counted n None = n
counted n (Some hop) = with_next n

-- a datagram that a child asks for, from this address
abbrev pub draft_of : Addr → IpTx → List ℕ → Letter
draft_of own tx payload = record { waits = None; src = own.ip; dest = tx.dest; proto = tx.proto; ttl = tx.ttl; df = tx.df; payload = payload }

-- the token of this ticket waits for it
abbrev pub waiting : Letter → Ticket → Letter
waiting l ticket = record {
  waits = Some (IpProto, ticket);
  src = l.src;
  dest = l.dest;
  proto = l.proto;
  ttl = l.ttl;
  df = l.df;
  payload = l.payload;
}

abbrev pub ticket_at : ℕ → Ticket
ticket_at n = record { 0 = n }

-- a datagram of another protocol of the station: it may pass 64 routers, and may be cut
abbrev pub mail : Ip4 → Option (Proto × Ticket) → Ip4 → ℕ → List ℕ → Letter
mail src waits dest proto payload = record { waits = waits; src = src; dest = dest; proto = proto; ttl = 64; df = false; payload = payload }

-- to whom a datagram from this address goes
abbrev pub hop_from : Place → Addr → ℕ → Option Hop
hop_from n own dest = hop_by n.routes (is_everyones own dest) dest

abbrev pub is_hopless : Option Hop → Bool
is_hopless None = true
is_hopless (Some hop) = false

-- why a datagram isn't sent from this address
abbrev pub tx_refusal : Place → Addr → IpTx → Option Refuse
tx_refusal n own tx = first_of (tx_fault tx) (refuse_if (is_hopless (hop_from n own tx.dest.0)) NoRoute)

abbrev pub work_refusal_from : Place → Option Addr → IpWork → Option Refuse
work_refusal_from n None work = Some NoMapping
work_refusal_from n (Some own) (Receive got) = None
work_refusal_from n (Some own) (Transmit tx) = tx_refusal n own tx

-- why a child with this configuration can't have this work
abbrev pub work_refusal : Place → Option IpCfg → IpWork → Option Refuse
work_refusal n None work = Some NotStarted
work_refusal n (Some cfg) work = work_refusal_from n (address_used n.home cfg) work

-- an answer goes down, to all only where its destination is the limited broadcast
abbrev pub answer_hop : Place → Letter → Option Hop
answer_hop n l = hop_by n.routes (is_broadcast l.dest.0) l.dest.0

abbrev pub answered_down : Drive IpCfg IpWork Sending → Place → Option Letter → Drive IpCfg IpWork Sending
answered_down s n None = s
answered_down s n (Some l) = down s (answer_hop n l) l n.next

abbrev pub answer_counted : Place → Option Letter → Place
answer_counted n None = n
answer_counted n (Some l) = counted n (answer_hop n l)
