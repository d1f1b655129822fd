-- How far a download is followed.
use Rattle.std.specs.Prelude.{◌≡◌, ℕ, List, []}
use Rattle.tcp_recv.specs.Stream.{Board}
use Rattle.tcp_recv.specs.Receiver.{Receiver, Stands, untaken}
use Rattle.load_core.specs.Taken.{HasTaken}
use Rattle.load_core.specs.declared.load.Load.{Load}
use Rattle.tap_core.specs.declared.download.Download.{Download}
use Rattle.tap_core.specs.Connections.{tap_window}

-- the load has taken in what was taken from the receiver, which holds what is kept of the stream
pub record Carries (most : ℕ) (board : Board) (r : Receiver) (load : Load) : Type 0 where
  pub given : List ℕ
  pub stands : Stands board given r
  pub taken : HasTaken load most given

-- the same, and the load has taken in all that was accepted
pub record Follows (most irs : ℕ) (board : Board) (d : Download) : Type 0 where
  pub carries : Carries most board d.recv d.load
  pub all_taken : untaken d.recv ≡ []
  pub irs_is : d.recv.irs ≡ irs
  pub own_irs : d.irs ≡ irs
  pub cap_is : d.recv.cap ≡ tap_window
