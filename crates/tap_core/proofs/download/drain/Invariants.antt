-- What was moved and what is left are the stream so far.
use Rattle.std.proofs.Common.{◌≡◌, ℕ, length}
use Rattle.tcp_recv.specs.Stream.{Board}
use Rattle.tcp_recv.specs.Receiver.{untaken}
use Rattle.tap_core.specs.Following.{Carries}
use Rattle.tap_core.proofs.download.drain.Given as goal

abbrev pub invariant-loop-count : goal.invariant-loop-count
invariant-loop-count l = record {
  carries : (most : ℕ) (board : Board) → Carries most board l.fn.recv l.fn.load → Carries most board l.recv l.load;
  irs_is : l.recv.irs ≡ l.fn.recv.irs;
  cap_is : l.recv.cap ≡ l.fn.recv.cap;
}

abbrev pub decreases-loop-count : goal.decreases-loop-count
decreases-loop-count l = length (untaken l.recv)
