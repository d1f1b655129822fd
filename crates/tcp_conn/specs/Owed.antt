-- What goes out, and in which order: a SYN, a segment that goes again, or a RST to a bad acknowledgment; then new data; the
-- acknowledgment only where none of these went; last the RST of an abort.
use Rattle.std.specs.Prelude.{ℕ, ◌+◌, not, Bool, true, false, nat_le, [], Option, Some, None, if◌then◌else◌, option_map, is_some}
use Rattle.std.specs.Option.{option_map_or}
use Rattle.efi_base.specs.declared.plain.Tick.{Tick}
use Rattle.tcp_recv.specs.Receiver.{next_number}
use Rattle.tcp_send.specs.declared.backoff.Backoff.{Backoff}
use Rattle.tcp_send.specs.declared.text.Cut.{Cut}
use Rattle.tcp_send.specs.Numbers.{number_of}
use Rattle.tcp_send.specs.Rows.{is_row, started}
use Rattle.tcp_send.specs.Sender.{next_place, passed_of, has_given_up, cut_now, after_now}
use Rattle.tcp_conn.specs.declared.out.SegOut.{SegOut}
use Rattle.tcp_conn.specs.declared.state.ConnState.{ConnState}
use Rattle.tcp_conn.specs.declared.state.ConnState.TheVariants.{SynSent, SynReceived, Closed}
use Rattle.tcp_conn.specs.declared.state.ConnEnd.TheVariants.{ConnectTimeout, Aborted}
use Rattle.tcp_conn.specs.Connection.{Connection, is_closed}
use Rattle.tcp_conn.specs.Sides.{window_field, answered_shift}
use Rattle.tcp_conn.specs.Acceptance.{free_of}
use Rattle.tcp_conn.specs.States.{sent_state, resets_on_abort}

-- a RST has its number alone
abbrev pub reset_out : ℕ → SegOut
reset_out seq = record { seq = seq; ack = 0; flags = 4; window = 0; mss = None; shift = None; payload = record { items = [] } }

-- the SYN, with the acknowledgment of the peer's where that was heard
abbrev pub syn_out : ConnState → Connection → SegOut
syn_out SynReceived c = record {
  seq = c.sender.iss;
  ack = next_number c.receiver;
  flags = 18;
  window = 65535;
  mss = Some 1460;
  shift = answered_shift c.scale;
  payload = record { items = [] };
}
syn_out other c = record { seq = c.sender.iss; ack = 0; flags = 2; window = 65535; mss = Some 1460; shift = Some 4; payload = record { items = [] } }

abbrev pub ack_out : Connection → SegOut
ack_out c = record {
  seq = number_of c.sender.iss (next_place c.sender);
  ack = next_number c.receiver;
  flags = 16;
  window = window_field c.scale (free_of c.receiver);
  mss = None;
  shift = None;
  payload = record { items = [] };
}

-- ACK, and PSH and FIN where the cut has them
abbrev pub cut_flags : Bool → Bool → ℕ
cut_flags psh fin = 16 + (if psh then 8 else 0) + (if fin then 1 else 0)

abbrev pub cut_out : Connection → Cut → SegOut
cut_out c cut = record {
  seq = number_of c.sender.iss cut.place;
  ack = next_number c.receiver;
  flags = cut_flags cut.psh cut.fin;
  window = window_field c.scale (free_of c.receiver);
  mss = None;
  shift = None;
  payload = cut.payload;
}

-- the SYN wasn't sent, or its next row is there
abbrev pub is_syn_due : Option Backoff → Tick → Bool
is_syn_due syn now = option_map_or (λ b. is_row b now) syn true

-- the row behind the SYN's last one is the next
abbrev pub is_syn_over : Option Backoff → Bool
is_syn_over syn = nat_le 5 (passed_of syn)

-- the SYN's rows after a sending
abbrev pub syn_sent : Option Backoff → Tick → Backoff
syn_sent None now = started now
syn_sent (Some b) now = record b { passed = b.passed + 1 }

abbrev pub opening_out : Connection → Option SegOut
opening_out c =
    if is_some c.reset_owed then option_map reset_out c.reset_owed
    else if not (is_syn_due c.syn c.at) then None
    else if is_syn_over c.syn then None
    else Some (syn_out c.state c)

abbrev pub after_opening : Connection → Connection
after_opening c =
    if is_some c.reset_owed then record c { reset_owed = None }
    else if not (is_syn_due c.syn c.at) then c
    else if is_syn_over c.syn then record c { state = Closed ConnectTimeout }
    else record c { syn = Some (syn_sent c.syn c.at) }

-- by the sending law
abbrev pub stream_out : Connection → Option SegOut
stream_out c = option_map (cut_out c) (cut_now c.sender c.at)

abbrev pub after_stream : Connection → Connection
after_stream c =
    let s = after_now c.sender c.at in
    record c { sender = s; state = sent_state c.state (has_given_up s) s.fin_sent c.aborted }

abbrev pub due_in : ConnState → Connection → Option SegOut
due_in SynSent c = opening_out c
due_in SynReceived c = opening_out c
due_in (Closed e) c = None
due_in other c = stream_out c

abbrev pub after_due_in : ConnState → Connection → Connection
after_due_in SynSent c = after_opening c
after_due_in SynReceived c = after_opening c
after_due_in (Closed e) c = c
after_due_in other c = after_stream c

-- the RST of an abort
abbrev pub abort_out : Connection → Option SegOut
abort_out c = if resets_on_abort c.state then Some (reset_out (number_of c.sender.iss (next_place c.sender))) else None

-- where nothing else goes
abbrev pub rest_out : Connection → Option SegOut
rest_out c =
    if is_closed c.state then None
    else if c.ack_owed then Some (ack_out c)
    else if c.aborted then abort_out c
    else None

abbrev pub after_rest : Connection → Connection
after_rest c =
    if is_closed c.state then c
    else if c.ack_owed then record c { ack_owed = false }
    else if c.aborted then record c { state = Closed Aborted }
    else c

-- the next segment of the event
abbrev pub segment_out : Connection → Option SegOut
segment_out c = if is_some (due_in c.state c) then due_in c.state c else rest_out (after_due_in c.state c)

abbrev pub after_out : Connection → Connection
after_out c = if is_some (due_in c.state c) then record (after_due_in c.state c) { ack_owed = false } else after_rest (after_due_in c.state c)
