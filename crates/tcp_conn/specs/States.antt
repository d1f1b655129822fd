-- Which state follows which (RFC 9293, section 3.3.2).
use Rattle.std.specs.Prelude.{Bool, true, false}
use Rattle.tcp_conn.specs.declared.state.ConnState.{ConnState}
use Rattle.tcp_conn.specs.declared.state.ConnState.TheVariants.{SynReceived, Established, FinWait1, FinWait2, CloseWait, Closing, LastAck, TimeWait, Closed}
use Rattle.tcp_conn.specs.declared.state.ConnEnd.TheVariants.{Fin, SendTimeout}

-- once it is known whether this side's FIN is acknowledged, and whether the peer's FIN is reached
abbrev pub heard_state : ConnState → Bool → Bool → ConnState
heard_state Established acked true = CloseWait
heard_state FinWait1 true true = TimeWait
heard_state FinWait1 true false = FinWait2
heard_state FinWait1 false true = Closing
heard_state FinWait2 acked true = TimeWait
heard_state Closing true ended = TimeWait
heard_state LastAck true ended = Closed Fin
heard_state other acked ended = other

-- established, by a SYN's acknowledgment, where the user closed before or didn't
abbrev pub established_state : Bool → ConnState
established_state true = FinWait1
established_state false = Established

-- the user closes
abbrev pub closed_state : ConnState → ConnState
closed_state Established = FinWait1
closed_state other = other

-- once it is known whether the peer was silent for too long, whether this side's FIN was sent, and whether the user has given
-- the connection up
abbrev pub sent_state : ConnState → Bool → Bool → Bool → ConnState
sent_state other true fin aborted = Closed SendTimeout
sent_state CloseWait false true false = LastAck
sent_state other false fin aborted = other

-- whether the ticks of TIME-WAIT count anew: it begins, or a FIN is heard again
abbrev pub restarts_wait : ConnState → ConnState → Bool → Bool
restarts_wait TimeWait TimeWait fin = fin
restarts_wait before TimeWait fin = true
restarts_wait before other fin = false

-- states in which abort sends a RST (RFC 9293, section 3.10.5)
abbrev pub resets_on_abort : ConnState → Bool
resets_on_abort SynReceived = true
resets_on_abort Established = true
resets_on_abort FinWait1 = true
resets_on_abort FinWait2 = true
resets_on_abort CloseWait = true
resets_on_abort other = false
