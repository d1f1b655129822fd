use Rattle.drv_ip4.specs.Hearing.{is_for}
use Rattle.drv_ip4.proofs.Steps.{both-given}
use Rattle.drv_ip4.proofs.hearing.give_all.Goals as goal

pub returns-clause-ok : goal.returns-clause-ok
returns-clause-ok c =
    let d = c.args.d.now in
    let test = is_for c.args.home d in
    rw (both-given d test c.args.children.now.live c.args.children.now.own c.args.tokens.now, ← c.in_ok-give_callers.ensures.ok) c.give_own.ensures.ok
