use Rattle.std.proofs.Common.{◌≤◌, ◌^◌}
use Rattle.std.proofs.lemmas.List.Elements.{All-filter}
use Rattle.ip_hops.specs.declared.round.Round.{Round}
use Rattle.ip_hops.specs.Rounds.{goes_on}
use Rattle.ip_hops.proofs.hops.Hops.act.Goals as goal

pub invariant_of-self-2 : goal.invariant_of-self-2
invariant_of-self-2 g c = (c.requires, rw c.end_rounds.ensures.kept (All-filter (goes_on c.args.m.0) (λ (r : Round). r.asked.0 ≤ 2 ^ 62) c.self.inside.rounds.items c.self.invariant.1))
