-- What opens a connection, and what a tick and the user's calls do (RFC 9293, section 3.10).
use Rattle.std.specs.Prelude.{ℕ, ◌+◌, ◌^◌, Bool, true, false, nat_le, nat_lt, List, drop, Option, Some, None, if◌then◌else◌}
use Rattle.std.specs.Option.{option_and_then}
use Rattle.efi_base.specs.declared.plain.Tick.{Tick}
use Rattle.wire_l4.specs.Segment.{Segment}
use Rattle.tcp_send.specs.Rows.{row_tick}
use Rattle.tcp_send.specs.Sender.{push_count, after_push, after_finish, next_tick}
use Rattle.tcp_conn.specs.declared.state.ConnState.{ConnState}
use Rattle.tcp_conn.specs.declared.state.ConnState.TheVariants.{SynSent, SynReceived, TimeWait, Closed}
use Rattle.tcp_conn.specs.declared.state.ConnEnd.TheVariants.{Fin, Aborted}
use Rattle.tcp_recv.specs.Receiver.{fresh as fresh_receiver}
use Rattle.tcp_send.specs.Sender.{fresh as fresh_sender}
use Rattle.tcp_conn.specs.Connection.{Connection, is_over}
use Rattle.tcp_conn.specs.Sides.{cap_of, most_of}
use Rattle.tcp_conn.specs.States.{closed_state}

-- before anything went or was heard
abbrev pub begun : ConnState → Tick → ℕ → ℕ → ℕ → Option ℕ → Connection
begun state now iss irs limit scale = record {
  state = state;
  aborted = false;
  closed = false;
  limit = limit;
  scale = scale;
  at = now;
  since = now;
  syn = None;
  ack_owed = false;
  reset_owed = None;
  receiver = fresh_receiver irs 1048560 (cap_of scale);
  sender = fresh_sender iss;
}

-- this side opens
abbrev pub opening : Tick → ℕ → ℕ → Connection
opening now iss mss = begun SynSent now iss 0 mss None

-- a SYN was heard, and this side answers it
abbrev pub listening : Tick → Segment → ℕ → ℕ → Connection
listening now syn iss mss = begun SynReceived now iss syn.seq (most_of mss syn.mss) syn.shift

-- TIME-WAIT has lasted 2,000 ticks
abbrev pub is_waited : ConnState → Tick → Tick → Bool
is_waited TimeWait since now = nat_le (since.0 + 2000) now.0
is_waited other since now = false

abbrev pub after_tick : Connection → Tick → Connection
after_tick c now =
    if is_over c then c
    else if is_waited c.state c.since now then record c { at = now; state = Closed Fin }
    else record c { at = now }

abbrev pub pushed_count : Connection → List ℕ → ℕ
pushed_count c bytes = if is_over c then 0 else push_count c.sender bytes

abbrev pub after_pushing : Connection → List ℕ → Connection
after_pushing c bytes = if is_over c then c else record c { sender = after_push c.sender bytes }

abbrev pub after_abort : Connection → Connection
after_abort c = if is_over c then c else record c { aborted = true }

-- to close before the peer has answered gives the connection up
abbrev pub closing_in : ConnState → Connection → Connection
closing_in SynSent c = record c { aborted = true }
closing_in state c = record c { closed = true; state = closed_state state; sender = after_finish c.sender }

abbrev pub after_close : Connection → Connection
after_close c = if is_over c then c else closing_in c.state c

-- so many octets are taken
abbrev pub after_taking : Connection → ℕ → Connection
after_taking c n = record c { receiver = record c.receiver { taken = c.receiver.taken + n; held = drop n c.receiver.held } }

abbrev pub shown_state : Connection → ConnState
shown_state c = if c.aborted then Closed Aborted else c.state

-- the end of TIME-WAIT, below 2^64
abbrev pub wait_end : Tick → Option Tick
wait_end since = if nat_lt (since.0 + 2000) (2 ^ 64) then Some (record { 0 = since.0 + 2000 }) else None

abbrev pub next_in : ConnState → Connection → Option Tick
next_in SynSent c = option_and_then row_tick c.syn
next_in SynReceived c = option_and_then row_tick c.syn
next_in TimeWait c = wait_end c.since
next_in (Closed e) c = None
next_in other c = next_tick c.sender

-- once all segments of an event were taken: the next tick at which one goes, or the connection ends
abbrev pub next_event : Connection → Option Tick
next_event c = if c.aborted then None else next_in c.state c
