use Rattle.std.proofs.Common.{◌≡◌, ◌-◌, ◌≤◌, ◌++◌, length, take, drop, filter}
use Rattle.ip_hops.specs.Waits.{is_not_owned}
use Rattle.ip_hops.proofs.wait.leave_out.Given as goal

abbrev pub invariant-loop-i : goal.invariant-loop-i
invariant-loop-i g l = record {
  within : l.i ≤ length l.waits.items;
  kept : take l.i l.waits.items ++ filter (is_not_owned l.token) (drop l.i l.waits.items) ≡ filter (is_not_owned l.token) l.initial.waits.items;
}

abbrev pub decreases-loop-i : goal.decreases-loop-i
decreases-loop-i g l = length l.waits.items - l.i
