use Rattle.std.proofs.Common.{◌≡◌, ◌++◌, map, take, drop}
use Rattle.arp_cache.specs.Entries.{refreshed}
use Rattle.arp_cache.proofs.entries.refresh_all.Given as goal

abbrev pub invariant-loop-e : goal.invariant-loop-e
invariant-loop-e l =
    l.entries ≡ map (refreshed l.ip l.mac l.now) (take l.e-index l.initial.entries) ++ drop l.e-index l.initial.entries
