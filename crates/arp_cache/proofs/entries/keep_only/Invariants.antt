use Rattle.std.proofs.Common.{◌≡◌, ◌-◌, ◌≤◌, ◌++◌, length, take, drop, filter, vec_len, vec_capacity}
use Rattle.arp_cache.specs.Entries.{keeps}
use Rattle.arp_cache.proofs.entries.keep_only.Given as goal

abbrev pub invariant-loop-i : goal.invariant-loop-i
invariant-loop-i l = record {
  within : l.i ≤ length l.entries.items;
  kept : take l.i l.entries.items ++ filter (keeps l.keep) (drop l.i l.entries.items) ≡ filter (keeps l.keep) l.initial.entries.items;
  bound : vec_len l.entries ≤ vec_len l.initial.entries;
  room : vec_capacity l.entries ≡ vec_capacity l.initial.entries;
}

abbrev pub decreases-loop-i : goal.decreases-loop-i
decreases-loop-i l = length l.entries.items - l.i
