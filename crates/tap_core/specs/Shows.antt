-- What a capture shows of its first connection, when it is read passively.
use Rattle.std.specs.Prelude.{◌≡◌, ◌⊎◌, ℕ, suc, ◌+◌, false, List, [], ◌∷◌, ◌++◌, length, take, drop, Option, Some, None, All}
use Rattle.efi_base.specs.declared.plain.Record.{Record}
use Rattle.wire_l4.specs.Segment.{Segment}
use Rattle.tcp_recv.specs.Stream.{Board, empty}
use Rattle.efi_base.specs.declared.load_end.LoadEnd.{LoadEnd}
use Rattle.efi_base.specs.declared.load_end.LoadEnd.TheVariants.{OutOfTime, NoConnection}
use Rattle.tap_core.specs.Connections.{Connects, accepts_at, board_after}
use Rattle.tap_core.specs.Ends.{EndsBehind, MeetNothing}
use Rattle.tap_core.specs.Heard.{segments_heard}
use Rattle.tap_core.specs.Openings.{Opening, openings_of, IsFirstAt}

-- what is told: how the download ended, the opening of the connection if there is one, what is kept of the stream, and the
-- records up to the one at which it ended
pub record Telling : Type 0 where
  pub end : LoadEnd
  pub opening : Option Opening
  pub board : Board
  pub upto : List Record

-- no segment asks for a connection
pub record ShowsNoOpening (records : List Record) (t : Telling) : Type 0 where
  pub none : All (λ o. o ≡ None) (openings_of records)
  pub told : t ≡ record { end = NoConnection; opening = None; board = empty; upto = records }

-- what is heard from the peer behind the place n, at which a segment asks for a connection
abbrev pub heard_behind : List Record → ℕ → Opening → List (Option Segment)
heard_behind records n o = drop (suc n) (segments_heard o records)

-- no segment accepts the connection
pub record ShowsNoAnswer (records : List Record) (t : Telling) : Type 0 where
  pub at : ℕ
  pub opening : Opening
  pub is_first : IsFirstAt (openings_of records) at opening
  pub none : All (λ h. accepts_at opening.seq h ≡ false) (heard_behind records at opening)
  pub told : t ≡ record { end = NoConnection; opening = Some opening; board = empty; upto = records }

-- a connection with the peer's first number, and what is heard on it from the record at a place on
pub record HasConnection (records : List Record) (opening : Opening) (irs place : ℕ) (heard : List (Option Segment)) : Type 0 where
  pub at : ℕ
  pub is_first : IsFirstAt (openings_of records) at opening
  pub answer : Segment
  pub answer_at : ℕ
  pub connects : Connects opening.seq (heard_behind records at opening) answer_at answer heard
  pub irs_is : irs ≡ answer.seq
  pub place_is : place ≡ suc at + suc answer_at

-- the download ends at a record
pub record ShowsEnd (most : ℕ) (records : List Record) (t : Telling) : Type 0 where
  pub opening : Opening
  pub irs : ℕ
  pub place : ℕ
  pub heard : List (Option Segment)
  pub connection : HasConnection records opening irs place heard
  pub before : List (Option Segment)
  pub last : Option Segment
  pub end : LoadEnd
  pub ends : EndsBehind most irs heard before last end
  pub told : t ≡ record { end = end; opening = Some opening; board = board_after irs (before ++ last ∷ []); upto = take (place + suc (length before)) records }

-- the capture ends first
pub record ShowsOutOfTime (most : ℕ) (records : List Record) (t : Telling) : Type 0 where
  pub opening : Opening
  pub irs : ℕ
  pub place : ℕ
  pub heard : List (Option Segment)
  pub connection : HasConnection records opening irs place heard
  pub nothing : MeetNothing most irs empty heard
  pub told : t ≡ record { end = OutOfTime; opening = Some opening; board = board_after irs heard; upto = records }

-- what the records show, with a buffer of so many octets
abbrev pub Shows : ℕ → List Record → Telling → Type 0
Shows most records t = ShowsNoOpening records t ⊎ (ShowsNoAnswer records t ⊎ (ShowsEnd most records t ⊎ ShowsOutOfTime most records t))
