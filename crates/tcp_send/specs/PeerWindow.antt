-- The window of the peer (RFC 9293, section 3.10.7.4, fifth check).
use Rattle.std.specs.Prelude.{ℕ, ◌^◌, ◌==◌, Bool, nat_lt, if◌then◌else◌}
use Rattle.tcp_send.specs.declared.peer_window.SendWindow.{SendWindow}
use Rattle.tcp_send.specs.Numbers.{distance}

-- SND.WL1 < SEG.SEQ, or they are equal and SND.WL2 ≤ SEG.ACK, where a number below 2^31 away stands ahead
abbrev pub is_newer : SendWindow → ℕ → ℕ → Bool
is_newer w seq ack = if distance w.seq seq == 0 then nat_lt (distance w.ack ack) (2 ^ 31) else nat_lt (distance w.seq seq) (2 ^ 31)

-- the window after a segment with these numbers
abbrev pub updated : SendWindow → ℕ → ℕ → ℕ → SendWindow
updated w seq ack size = if is_newer w seq ack then record { size = size; seq = seq; ack = ack } else w
