-- What was seen of a capture is what it shows.
use Rattle.std.specs.Prelude.{◌≡◌, ℕ, ◌≤◌, List, [], length, take}
use Rattle.efi_base.specs.declared.plain.Record.{Record}
use Rattle.tcp_recv.specs.Stream.{front, is_over}
use Rattle.wire_http.specs.Response.{IsWhole}
use Rattle.load_core.specs.Cases.{HasLoadSoFar, HasNoLoad}
use Rattle.tap_core.specs.declared.passive.Seen.{Seen}
use Rattle.efi_base.specs.declared.load_end.LoadEnd.TheVariants.{Success}
use Rattle.tap_core.specs.Shown.{Tells}
use Rattle.tap_core.specs.Shows.{Telling, Shows}

-- what was seen tells this, and with success it has the body of the whole response, which fits the buffer. However it ended, it
-- has those octets of a load's body (status 200, no coding) that came and fit, and none where the stream has no such body.
pub record IsSeenOf (most : ℕ) (t : Telling) (s : Seen) : Type 0 where
  pub tells : Tells t.end t.opening (length (front t.board.kept)) (is_over t.board) t.upto s.shown
  pub body : (n : ℕ) → t.end ≡ Success n → (body : List ℕ) → IsWhole (front t.board.kept) (is_over t.board) 200 body → length body ≤ most → s.body ≡ body
  pub so_far : (octets : List ℕ) → HasLoadSoFar (front t.board.kept) octets → s.body ≡ take most octets
  pub none : HasNoLoad (front t.board.kept) → s.body ≡ []

-- the records show something, and that was seen
pub record IsSeen (most : ℕ) (records : List Record) (s : Seen) : Type 0 where
  pub telling : Telling
  pub shows : Shows most records telling
  pub seen : IsSeenOf most telling s
