use Rattle.std.proofs.Common.{◌≡◌, drop}
use Rattle.ip_hops.specs.Rounds.{next_among, least}
use Rattle.ip_hops.proofs.round.next_in.Given as goal

abbrev pub invariant-loop-r : goal.invariant-loop-r
invariant-loop-r l = least l.best (next_among l.moment.0 (drop l.r-index l.rounds)) ≡ next_among l.moment.0 l.rounds
