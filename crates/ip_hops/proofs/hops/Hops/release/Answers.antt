use Rattle.std.proofs.Common.{◌≤◌, ◌^◌}
use Rattle.std.proofs.lemmas.List.Elements.{All-filter}
use Rattle.ip_hops.specs.declared.round.Round.{Round}
use Rattle.ip_hops.specs.Rounds.{is_round_of_other}
use Rattle.ip_hops.specs.Waits.{waits_for}
use Rattle.ip_hops.proofs.Firsts.{first_read}
use Rattle.ip_hops.proofs.hops.Hops.release.Goals as goal

pub invariant_of-self : goal.invariant_of-self
invariant_of-self g c = (c.self.invariant.0, rw c.close.ensures.kept (All-filter (is_round_of_other c.args.hop) (λ (r : Round). r.asked.0 ≤ 2 ^ 62) c.self.inside.rounds.items c.self.invariant.1))

pub returns-clause-first : goal.returns-clause-first
returns-clause-first g c =
    rw (← c.self.view_is) (
    first_read
    (waits_for c.args.hop)
    c.self.inside.waits.items
    c.deref.result.now
    c.in-Some.i
    c.remove.result
    c.index_for.result
    c.index_for.ensures.place
    c.in-Some.is
    c.deref.ensures.value
    c.remove.ensures.value
    )
