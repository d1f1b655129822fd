-- What a heard segment does, by state (RFC 9293, section 3.10.7).
use Rattle.std.specs.Prelude.{ℕ, ◌==◌, ◌&&◌, ◌||◌, not, Bool, true, false, Some, if◌then◌else◌}
use Rattle.efi_base.specs.declared.plain.Tick.{Tick}
use Rattle.wire_l4.specs.Segment.{Segment}
use Rattle.tcp_recv.specs.Receiver.{fresh, next_number, is_ended}
use Rattle.tcp_send.specs.Sender.{Sender, next_place, after_begin, after_ack, after_bare_ack}
use Rattle.tcp_conn.specs.declared.state.ConnState.{ConnState}
use Rattle.tcp_conn.specs.declared.state.ConnState.TheVariants.{SynSent, SynReceived, Established, Closed}
use Rattle.tcp_conn.specs.declared.state.ConnEnd.{ConnEnd}
use Rattle.tcp_conn.specs.declared.state.ConnEnd.TheVariants.{Reset, Refused}
use Rattle.tcp_conn.specs.Connection.{Connection, is_over}
use Rattle.tcp_conn.specs.Sides.{cap_of, most_of, scaled}
use Rattle.tcp_conn.specs.Acceptance.{has_fin, has_syn, has_rst, has_ack, has_text, is_in_window, is_acceptable, acks_syn, acks_unsent}
use Rattle.tcp_conn.specs.States.{heard_state, established_state, restarts_wait}
use Rattle.tcp_conn.specs.Hearing.{after_hearing}

abbrev pub ended_by : ConnEnd → Connection → Connection
ended_by e c = record c { state = Closed e }

abbrev pub owing_ack : Connection → Connection
owing_ack c = record c { ack_owed = true }

-- a RST with the number that a bad acknowledgment names
abbrev pub owing_reset : ℕ → Connection → Connection
owing_reset seq c = record c { reset_owed = Some seq }

-- this side's FIN was sent and is acknowledged
abbrev pub fin_acked : Sender → Bool
fin_acked s = s.fin_sent && s.una == next_place s

-- the state that follows from what was heard, with FIN or not
abbrev pub moved : Bool → Connection → Connection
moved fin c =
    let next = heard_state c.state (fin_acked c.sender) (is_ended c.receiver) in
    record c { state = next; since = if restarts_wait c.state next fin then c.at else c.since }

-- data and FIN
abbrev pub after_text : Connection → Segment → Connection
after_text c s =
    if has_text s
    then record c { ack_owed = true; receiver = after_hearing c.receiver (record { seq = s.seq; bytes = s.payload; fin = has_fin s }) }
    else c

-- a RST resets where it stands at RCV.NXT, is answered elsewhere in the window, and ignored outside of it
abbrev pub after_reset : Connection → Segment → Connection
after_reset c s =
    if s.seq == next_number c.receiver then ended_by Reset c
    else if is_in_window c.receiver s.seq then owing_ack c
    else c

-- the SYN that answers this side's: data and FIN on it are ignored
abbrev pub opened_by : Connection → Segment → Connection
opened_by c s = record c {
  state = Established;
  ack_owed = true;
  scale = s.shift;
  receiver = fresh s.seq c.receiver.room (cap_of s.shift);
  sender = after_begin c.sender c.at s.seq s.window (most_of c.limit s.mss);
}

-- SYN-SENT (section 3.10.7.3); a SYN without an acknowledgment is ignored
unfoldable pub in_syn_sent : Connection → Segment → Connection
in_syn_sent c s =
    if has_rst s then (if acks_syn c.sender.iss s then ended_by Refused c else c)
    else if not (has_ack s) then c
    else if not (acks_syn c.sender.iss s) then owing_reset s.ack c
    else if has_syn s then opened_by c s
    else c

-- the acknowledgment of this side's SYN
abbrev pub established_by : Connection → Segment → Connection
established_by c s = record c {
  state = established_state c.closed;
  sender = after_begin c.sender c.at s.seq (scaled c.scale s.window) c.limit;
}

-- a SYN in the window ends a connection that was made by listening, and the SYN that made it is acknowledged again
abbrev pub after_syn_again : Connection → Segment → Connection
after_syn_again c s = if is_in_window c.receiver s.seq then ended_by Reset c else owing_ack c

-- SYN-RECEIVED (section 3.10.7.4); what an unacceptable segment brings counts by its place alone
unfoldable pub in_syn_received : Connection → Segment → Connection
in_syn_received c s =
    if has_rst s then after_reset c s
    else if has_syn s then after_syn_again c s
    else if not (is_acceptable c.receiver s) then owing_ack (if acks_syn c.sender.iss s then after_text c s else c)
    else if not (has_ack s) then c
    else if not (acks_syn c.sender.iss s) then owing_reset s.ack c
    else moved (has_fin s) (after_text (established_by c s) s)

-- the acknowledgment of a segment counts, its window where the segment is acceptable
abbrev pub acknowledged_by : Connection → Segment → Connection
acknowledged_by c s =
    if is_acceptable c.receiver s
    then record c { sender = after_ack c.sender c.at s.seq s.ack (scaled c.scale s.window) }
    else record c { sender = after_bare_ack c.sender c.at s.ack; ack_owed = true }

-- the states from ESTABLISHED on (section 3.10.7.4)
unfoldable pub in_synchronized : Connection → Segment → Connection
in_synchronized c s =
    if has_rst s then after_reset c s
    else if not (has_ack s) then (if has_syn s || not (is_acceptable c.receiver s) then owing_ack c else c)
    else if acks_unsent c.sender s then owing_ack c
    else if has_syn s then moved false (owing_ack (record c { sender = after_bare_ack c.sender c.at s.ack }))
    else moved (has_fin s) (after_text (acknowledged_by c s) s)

abbrev pub by_state : ConnState → Connection → Segment → Connection
by_state SynSent c s = in_syn_sent c s
by_state SynReceived c s = in_syn_received c s
by_state (Closed e) c s = c
by_state other c s = in_synchronized c s

-- an event that hears a segment
abbrev pub after_segment : Connection → Tick → Segment → Connection
after_segment c now s = if is_over c then c else by_state c.state (record c { at = now }) s
