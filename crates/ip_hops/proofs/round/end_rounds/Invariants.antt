use Rattle.std.proofs.Common.{◌≡◌, ◌-◌, ◌≤◌, ◌^◌, ◌++◌, length, take, drop, filter, All}
use Rattle.ip_hops.specs.Rounds.{goes_on}
use Rattle.ip_hops.proofs.round.end_rounds.Given as goal

abbrev pub invariant-loop-i : goal.invariant-loop-i
invariant-loop-i l = record {
  within : l.i ≤ length l.rounds.items;
  kept : take l.i l.rounds.items ++ filter (goes_on l.m.0) (drop l.i l.rounds.items) ≡ filter (goes_on l.m.0) l.initial.rounds.items;
  early : All (λ r. r.asked.0 ≤ 2 ^ 62) l.rounds.items;
}

abbrev pub decreases-loop-i : goal.decreases-loop-i
decreases-loop-i l = length l.rounds.items - l.i
