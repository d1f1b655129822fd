-- The counts that stand for records, of which none is kept.
use Rattle.std.specs.Prelude.{◌≡◌, ℕ, List, length, filter, Option, unwrap_or}
use Rattle.std.specs.BTreeMap.{BTreeMap, get}
use Rattle.std.specs.Cmp.Lexicographic.{slice_cmp}
use Rattle.std.specs.Ordering.{nat_cmp}
use Rattle.efi_base.specs.declared.plain.Record.{Record}
use Rattle.tap_core.specs.declared.tally.Tally.{Tally}
use Rattle.tap_core.specs.declared.telling.Counts.{Counts}
use Rattle.tap_core.specs.Openings.{Opening}
use Rattle.tap_core.specs.Shown.{last_tick, sent_by, sent_count, heard_count}

-- these are the counts of the records, and the tick of the last one
pub record Counted (opening : Option Opening) (records : List Record) (c : Counts) : Type 0 where
  pub sent_is : c.sent ≡ sent_count opening records
  pub heard_is : c.heard ≡ heard_count opening records
  pub tick_is : c.tick.0 ≡ last_tick records

-- the count of a sender, by its Ethernet address: 0 where it has none
abbrev pub sent_of : BTreeMap (List ℕ) ℕ → List ℕ → ℕ
sent_of counts station = unwrap_or (get (slice_cmp nat_cmp) counts station) 0

-- how many of the records each station sent, how many there are (those that it didn't send it heard), and the tick of the last one
pub record Tallies (records : List Record) (t : Tally) : Type 0 where
  pub sent_is : (station : List ℕ) → sent_of t.sent station ≡ length (filter (sent_by station) records)
  pub all_is : t.all ≡ length records
  pub tick_is : t.tick.0 ≡ last_tick records
