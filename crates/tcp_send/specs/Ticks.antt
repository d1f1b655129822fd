-- Between two rows nothing is sent again.
use Rattle.std.specs.Prelude.{◌≡◌, true, false, is_none}
use Rattle.tcp_send.specs.Sender.{Sender, may_send, waits}

-- an event is over: nothing new may go, and the rows count for what waits
pub record IsOver (s : Sender) : Type 0 where
  pub may : may_send s ≡ false
  pub counts : waits s ≡ true → is_none s.backoff ≡ false
