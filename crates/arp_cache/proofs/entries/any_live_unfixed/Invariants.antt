use Rattle.std.proofs.Common.{◌≡◌, drop}
use Rattle.arp_cache.specs.Entries.{has_unfixed}
use Rattle.arp_cache.specs.Caches.{after_time}
use Rattle.arp_cache.proofs.entries.any_live_unfixed.Given as goal

abbrev pub invariant-loop-e : goal.invariant-loop-e
invariant-loop-e l = has_unfixed (after_time l.now.0 (drop l.e-index l.entries)) ≡ has_unfixed (after_time l.now.0 l.entries)
