-- What a report tells of a capture.
use Rattle.std.specs.Prelude.{◌≡◌, ℕ, ◌-◌, ⊤, Bool, not, List, length, filter, slice_get, Option, Some, None}
use Rattle.std.specs.Option.{option_map_or}
use Rattle.efi_base.specs.declared.plain.Record.{Record}
use Rattle.efi_base.specs.declared.load_end.LoadEnd.{LoadEnd}
use Rattle.efi_base.specs.declared.plain.Peer.{Peer}
use Rattle.tap_core.specs.declared.telling.Shown.{Shown}
use Rattle.tap_core.specs.Frames.{is_sent}
use Rattle.tap_core.specs.Openings.{Opening}

-- the tick of the last of the records, 0 where there is none
abbrev pub last_tick : List Record → ℕ
last_tick records = option_map_or (λ r. r.tick.0) (slice_get records (length records - 1)) 0

-- the record is one that the station sent
abbrev pub sent_by : List ℕ → Record → Bool
sent_by station r = is_sent station r.frame

-- the others it heard, also frames too short for an Ethernet header
abbrev pub heard_by : List ℕ → Record → Bool
heard_by station r = not (sent_by station r)

-- how many of the records the station sent: none where no station is known
abbrev pub sent_count : Option Opening → List Record → ℕ
sent_count None records = 0
sent_count (Some o) records = length (filter (sent_by o.station) records)

-- how many it heard: all where no station is known
abbrev pub heard_count : Option Opening → List Record → ℕ
heard_count None records = length records
heard_count (Some o) records = length (filter (heard_by o.station) records)

-- the peer is the destination of the opening
abbrev pub IsPeer : Option Opening → Option Peer → Type 0
IsPeer None None = ⊤
IsPeer None (Some p) = ⊥
IsPeer (Some o) None = ⊥
IsPeer (Some o) (Some p) = (p.addr.0 ≡ o.dest) × (p.port ≡ o.dport)

-- this is shown of an end, an opening, how many octets were accepted, whether the stream's end was reached, and the records
-- up to the one at which it ended
pub record Tells (end : LoadEnd) (opening : Option Opening) (accepted : ℕ) (fin : Bool) (upto : List Record) (s : Shown) : Type 0 where
  pub end_is : s.end ≡ end
  pub peer_is : IsPeer opening s.peer
  pub accepted_is : s.accepted ≡ accepted
  pub fin_is : s.fin ≡ fin
  pub tick_is : s.tick.0 ≡ last_tick upto
  pub sent_is : s.sent ≡ sent_count opening upto
  pub heard_is : s.heard ≡ heard_count opening upto
