use Rattle.std.proofs.Common.{◌≡◌, drop}
use Rattle.arp_cache.specs.Entries.{staler, stalest}
use Rattle.arp_cache.proofs.entries.stalest_in.Given as goal

abbrev pub invariant-loop-e : goal.invariant-loop-e
invariant-loop-e l = staler l.first (stalest (drop l.e-index l.entries)) ≡ stalest l.entries
