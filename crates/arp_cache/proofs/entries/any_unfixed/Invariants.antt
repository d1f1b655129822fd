use Rattle.std.proofs.Common.{◌≡◌, drop}
use Rattle.arp_cache.specs.Entries.{has_unfixed}
use Rattle.arp_cache.proofs.entries.any_unfixed.Given as goal

abbrev pub invariant-loop-e : goal.invariant-loop-e
invariant-loop-e l = has_unfixed (drop l.e-index l.entries) ≡ has_unfixed l.entries
