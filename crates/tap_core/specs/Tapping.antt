-- What a tap stands for that has heard records one after the other. Of them fragments alone are kept, and these only until one
-- asks for a connection.
use Rattle.std.specs.Prelude.{◌≡◌, ℕ, ◌<◌, false, List, [], Option, Some, None, All, vec_len}
use Rattle.efi_base.specs.declared.plain.Record.{Record}
use Rattle.wire_l4.specs.Segment.{Segment}
use Rattle.tcp_recv.specs.Stream.{empty}
use Rattle.tap_core.specs.declared.download.Download.{Download}
use Rattle.tap_core.specs.declared.listening.Listener.{Listener}
use Rattle.tap_core.specs.declared.tapping.Tap.{Tap}
use Rattle.tap_core.specs.declared.stages.Stage.{Stage}
use Rattle.tap_core.specs.declared.stages.Stage.TheVariants.{Opening, Answering, Following, Ended, Broken}
use Rattle.tap_core.specs.declared.stages.Waiting.{Waiting}
use Rattle.tap_core.specs.declared.passive.Seen.{Seen}
use Rattle.tap_core.specs.Connections.{accepts_at, board_after}
use Rattle.tap_core.specs.Counting.{Counted, Tallies}
use Rattle.tap_core.specs.Early.{KeepsFragments}
use Rattle.tap_core.specs.Ends.{MeetNothing}
use Rattle.tap_core.specs.Following.{Follows}
use Rattle.tap_core.specs.Hearing.{pools_sent, pools_from}
use Rattle.tap_core.specs.Openings.{openings_of, IsFirstAt}
use Rattle.tap_core.specs.Seen.{syn_seen}
use Rattle.tap_core.specs.Shows.{Telling, heard_behind, HasConnection, ShowsEnd}
use Rattle.tap_core.specs.Watching.{IsSeenOf}

-- none of the records asks for a connection, and this stands for them whichever is the station
pub record IsWaiting (records : List Record) (w : Waiting) : Type 0 where
  pub none : All (λ o. o ≡ None) (openings_of records)
  pub pools : w.reasm ≡ pools_sent records
  pub early : KeepsFragments records w.early
  pub tally : Tallies records w.tally

-- the station has heard the records: the pools are those that the records leave open to it, and the counts are the records'
pub record Listens (records : List Record) (l : Listener) : Type 0 where
  pub pools : l.reasm ≡ pools_from (syn_seen l.syn) [] records
  pub counts : Counted (Some (syn_seen l.syn)) records l.counts

-- a record asks for a connection, and none behind it accepts it
pub record IsAnswering (records : List Record) (l : Listener) : Type 0 where
  pub at : ℕ
  pub is_first : IsFirstAt (openings_of records) at (syn_seen l.syn)
  pub none : All (λ h. accepts_at (syn_seen l.syn).seq h ≡ false) (heard_behind records at (syn_seen l.syn))
  pub listens : Listens records l

-- the peer accepted the connection, and the download is followed, and ends at none of the records
pub record IsFollowing (most : ℕ) (records : List Record) (l : Listener) (d : Download) : Type 0 where
  pub irs : ℕ
  pub place : ℕ
  pub heard : List (Option Segment)
  pub connection : HasConnection records (syn_seen l.syn) irs place heard
  pub nothing : MeetNothing most irs empty heard
  pub follows : Follows most irs (board_after irs heard) d
  pub room : 0 < vec_len d.room
  pub listens : Listens records l

-- the download ended at one of the records, and this is what was seen of it
pub record IsEnded (most : ℕ) (records : List Record) (s : Seen) : Type 0 where
  pub telling : Telling
  pub shows : ShowsEnd most records telling
  pub seen : IsSeenOf most telling s

-- a stage stands for the records; once memory was refused it stands for none
abbrev pub StandsFor : ℕ → List Record → Stage → Type 0
StandsFor most records (Opening w) = IsWaiting records w
StandsFor most records (Answering l) = IsAnswering records l
StandsFor most records (Following l d) = IsFollowing most records l d
StandsFor most records (Ended s) = IsEnded most records s
StandsFor most records Broken = ⊥

-- memory was refused at a record
abbrev pub IsBroken : Tap → Type 0
IsBroken tap = tap.stage ≡ Broken

-- the tap has heard the records, with a buffer of so many octets
pub record HasHeard (most : ℕ) (records : List Record) (tap : Tap) : Type 0 where
  pub most_is : tap.most ≡ most
  pub stands : StandsFor most records tap.stage
