-- The text that is sent, and its true cuts.
use Rattle.std.specs.Prelude.{◌≡◌, ℕ, ◌+◌, ◌≤◌, Bool, IsTrue, List, length, take, drop}
use Rattle.tcp_send.specs.declared.text.Cut.{Cut}
use Rattle.tcp_send.specs.Sender.{Sender}

-- all that was pushed is this text: what is kept is the rest of it
pub record Keeps (text : List ℕ) (s : Sender) : Type 0 where
  pub within : s.base ≤ length text
  pub rest : s.kept ≡ drop s.base text

-- a segment is a true cut of a text: its octets stand there at its place, and it has FIN only at the end of a text that is whole
pub record IsTrueCut (text : List ℕ) (finished : Bool) (cut : Cut) : Type 0 where
  pub within : cut.place + length cut.payload.items ≤ length text
  pub octets : cut.payload.items ≡ take (length cut.payload.items) (drop cut.place text)
  pub whole : IsTrue cut.fin → IsTrue finished
  pub end : IsTrue cut.fin → cut.place + length cut.payload.items ≡ length text
