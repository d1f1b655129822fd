use Rattle.std.proofs.Common.{◌≡◌, ◌-◌, ◌+◌, ◌≤◌, ◌++◌, length, take, drop, filter, vec_len}
use Rattle.std.specs.VecDeque.{deque_len, deque_capacity}
use Rattle.ip_hops.specs.Waits.{is_over, stays}
use Rattle.ip_hops.proofs.wait.drop_over.Given as goal

abbrev pub invariant-loop-i : goal.invariant-loop-i
invariant-loop-i g l = record {
  within : l.i ≤ length l.waits.items;
  kept : take l.i l.waits.items ++ filter (stays l.m.0 l.rounds) (drop l.i l.waits.items) ≡ filter (stays l.m.0 l.rounds) l.initial.waits.items;
  ended : l.ended.items ++ filter (is_over l.m.0 l.rounds) (drop l.i l.waits.items) ≡ l.initial.ended.items ++ filter (is_over l.m.0 l.rounds) l.initial.waits.items;
  room : vec_len l.waits + deque_len l.ended ≤ deque_capacity l.ended;
}

abbrev pub decreases-loop-i : goal.decreases-loop-i
decreases-loop-i g l = length l.waits.items - l.i
