-- The facts that a connection is.
use Rattle.std.specs.Prelude.{ℕ, ◌||◌, Bool, true, false, Option}
use Rattle.efi_base.specs.declared.plain.Tick.{Tick}
use Rattle.tcp_recv.specs.Receiver.{Receiver}
use Rattle.tcp_send.specs.Sender.{Sender}
use Rattle.tcp_send.specs.declared.backoff.Backoff.{Backoff}
use Rattle.tcp_conn.specs.declared.state.ConnState.{ConnState}
use Rattle.tcp_conn.specs.declared.state.ConnState.TheVariants.{Closed}

pub record Connection : Type 0 where
  pub state : ConnState
  -- the user has given the connection up, whatever this event still owes
  pub aborted : Bool
  -- the user pushes no more octets
  pub closed : Bool
  -- the most octets of a segment, as far as this side knows
  pub limit : ℕ
  -- the shift of the peer's window, where both SYNs carry one
  pub scale : Option ℕ
  -- the tick of the event
  pub at : Tick
  -- TIME-WAIT counts from this tick
  pub since : Tick
  -- the tick of the SYN's first sending, and how many of its rows have passed; none before that sending
  pub syn : Option Backoff
  -- this event owes an acknowledgment
  pub ack_owed : Bool
  -- this event owes a RST with this number
  pub reset_owed : Option ℕ
  pub receiver : Receiver
  pub sender : Sender

abbrev pub is_closed : ConnState → Bool
is_closed (Closed e) = true
is_closed _ = false

-- nothing is heard or asked any more
abbrev pub is_over : Connection → Bool
is_over c = c.aborted || is_closed c.state
