use Rattle.std.proofs.Common.{◌≡◌, ◌≤◌, ◌++◌, drop, filter_map, length, vec_capacity, vec_len}
use Rattle.arp_cache.specs.Caches.{after_time}
use Rattle.drv_arp.specs.Arps.{answer_of}
use Rattle.drv_arp.proofs.told.put_answers.Given as goal

abbrev pub invariant-loop-p : goal.invariant-loop-p
invariant-loop-p l = record {
  found : l.answers.items ++ filter_map (answer_of (after_time l.now.0 l.cache)) (drop l.p-index l.pending) ≡ filter_map (answer_of (after_time l.now.0 l.cache)) l.pending;
  count : vec_len l.answers ≤ l.p-index;
  room : length l.pending ≤ vec_capacity l.answers;
}
