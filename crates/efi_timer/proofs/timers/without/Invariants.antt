use Rattle.std.proofs.Common.{◌≡◌, ◌-◌, ◌≤◌, ◌++◌, length, take, drop, filter, vec_len, vec_capacity}
use Rattle.efi_timer.specs.Moments.{is_other}
use Rattle.efi_timer.proofs.timers.without.Given as goal

abbrev pub invariant-loop-i : goal.invariant-loop-i
invariant-loop-i l = record {
  within : l.i ≤ length l.timers.items;
  kept : take l.i l.timers.items ++ filter (is_other l.id) (drop l.i l.timers.items) ≡ filter (is_other l.id) l.initial.timers.items;
  bound : vec_len l.timers ≤ vec_len l.initial.timers;
  room : vec_capacity l.timers ≡ vec_capacity l.initial.timers;
}

abbrev pub decreases-loop-i : goal.decreases-loop-i
decreases-loop-i l = length l.timers.items - l.i
