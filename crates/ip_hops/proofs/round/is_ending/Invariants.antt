use Rattle.std.proofs.Common.{◌≡◌, ◌&&◌, drop}
use Rattle.std.specs.List.{list_any}
use Rattle.ip_hops.specs.Rounds.{is_round_of, ends}
use Rattle.ip_hops.proofs.round.is_ending.Given as goal

abbrev pub invariant-loop-r : goal.invariant-loop-r
invariant-loop-r l = list_any (λ r. is_round_of l.hop r && ends l.m.0 r) (drop l.r-index l.rounds) ≡ list_any (λ r. is_round_of l.hop r && ends l.m.0 r) l.rounds
