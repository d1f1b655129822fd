use Rattle.std.proofs.Common.{◌≡◌, ◌+◌, ◌≤◌, drop, length}
use Rattle.arp_cache.specs.Caches.{after_time}
use Rattle.arp_cache.proofs.entries.live_len.Given as goal

abbrev pub invariant-loop-e : goal.invariant-loop-e
invariant-loop-e l = record {
  bound : l.n ≤ l.e-index;
  count : l.n + length (after_time l.now.0 (drop l.e-index l.entries)) ≡ length (after_time l.now.0 l.entries);
}
