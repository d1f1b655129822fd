-- A capture on whose connection the peer speaks one stream.
use Rattle.std.specs.Prelude.{ℕ, List, [], Option}
use Rattle.efi_base.specs.declared.plain.Record.{Record}
use Rattle.wire_l4.specs.Segment.{Segment}
use Rattle.wire_pcap.specs.Reading.{IsWhole as IsWholeCapture}
use Rattle.tap_core.specs.Openings.{Opening}
use Rattle.tap_core.specs.Peers.{IsHonest}
use Rattle.tap_core.specs.Shows.{HasConnection}

-- the octets are a capture that has a connection, with this heard on it, and each cut that is heard is a part of this
-- one stream, however it was lost, repeated or reordered
pub record HasHonestPeer (bytes : List ℕ) (irs : ℕ) (heard : List (Option Segment)) (stream : List ℕ) : Type 0 where
  pub records : List Record
  pub capture : IsWholeCapture bytes [] records
  pub opening : Opening
  pub place : ℕ
  pub connection : HasConnection records opening irs place heard
  pub honest : IsHonest irs stream heard
