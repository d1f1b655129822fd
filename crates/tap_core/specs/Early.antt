-- What is kept of the records in front of the segment that asks for a connection, while no station is known: fragments alone,
-- since they may belong to what the station hears later.
use Rattle.std.specs.Prelude.{◌≡◌, ◌⊎◌, ℕ, ◌-◌, ◌<◌, max, true, List, [], fold, All}
use Rattle.efi_base.specs.declared.plain.Record.{Record}
use Rattle.ip_core.specs.Pools.{Pool, lifetime, open_at}
use Rattle.ip_core.specs.Bytes.{Bytes, bytes_kept}
use Rattle.ip_core.specs.Datagrams.{after_event}
use Rattle.tap_core.specs.declared.early.Fragment.{Fragment}
use Rattle.tap_core.specs.declared.early.Fragments.{Fragments}
use Rattle.tap_core.specs.Frames.{holds_fragment}
use Rattle.tap_core.specs.Hearing.{event_heard, pools_from}
use Rattle.tap_core.specs.Openings.{Opening}
use Rattle.tap_core.specs.Shown.{last_tick}

-- the pools behind a kept fragment: in front of it comes the greatest tick since the kept one before it
abbrev pub after_kept : Opening → List (Pool Bytes) → Fragment → List (Pool Bytes)
after_kept o pools f = after_event bytes_kept (open_at f.passed.0 pools) (event_heard o f.record)

-- the pools that the kept fragments leave open, with the greatest tick behind the last of them
abbrev pub pools_left : Opening → Fragments → List (Pool Bytes)
pools_left o f = open_at f.passed.0 (fold (after_kept o) [] f.kept.items)

-- the greatest tick of kept fragments, 0 where there is none
abbrev pub latest_of : List Fragment → ℕ
latest_of kept = fold (λ m (k : Fragment). max m k.record.tick.0) 0 kept

-- the kept records hold fragments, and the latest tick is theirs
pub record HasFragments (f : Fragments) : Type 0 where
  pub holding : All (λ (k : Fragment). holds_fragment k.record.frame ≡ true) f.kept.items
  pub latest_is : f.latest.0 ≡ latest_of f.kept.items

-- none is kept, or a pool of the latest may be open at a tick
abbrev pub AreRecent : ℕ → Fragments → Type 0
AreRecent now f = (f.kept.items ≡ []) ⊎ (now - f.latest.0 < lifetime)

-- whoever is the station, the kept fragments leave the pools that the records leave; and none is kept once the time of the
-- latest one's pool is over
pub record KeepsFragments (records : List Record) (f : Fragments) : Type 0 where
  pub pools : (o : Opening) → pools_left o f ≡ pools_from o [] records
  pub fragments : HasFragments f
  pub recent : AreRecent (last_tick records) f
