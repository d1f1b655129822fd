use Rattle.std.proofs.Common.{◌≡◌, drop}
use Rattle.arp_cache.specs.Entries.{mac_of}
use Rattle.arp_cache.specs.Caches.{after_time}
use Rattle.arp_cache.proofs.entries.live_mac_in.Given as goal

abbrev pub invariant-loop-e : goal.invariant-loop-e
invariant-loop-e l =
    mac_of (after_time l.now.0 (drop l.e-index l.entries)) l.ip.0 ≡ mac_of (after_time l.now.0 l.entries) l.ip.0
