use Rattle.std.proofs.Common.{◌≡◌, ◌-◌, ◌≤◌, ◌++◌, length, take, drop, filter}
use Rattle.ip_hops.specs.Rounds.{is_round_of_other}
use Rattle.ip_hops.proofs.round.close.Given as goal

abbrev pub invariant-loop-i : goal.invariant-loop-i
invariant-loop-i l = record {
  within : l.i ≤ length l.rounds.items;
  kept : take l.i l.rounds.items ++ filter (is_round_of_other l.hop) (drop l.i l.rounds.items) ≡ filter (is_round_of_other l.hop) l.initial.rounds.items;
}

abbrev pub decreases-loop-i : goal.decreases-loop-i
decreases-loop-i l = length l.rounds.items - l.i
