use Rattle.drv_udp4.specs.Hearing.{arrival_seen, is_for}
use Rattle.drv_udp4.proofs.Steps.{both-given}
use Rattle.drv_udp4.proofs.hearing.give_all.Goals as goal

pub returns-clause-ok : goal.returns-clause-ok
returns-clause-ok c =
    let h = arrival_seen c.args.a.now in
    let test = is_for h in
    rw (both-given h test c.args.children.now.live c.args.children.now.own c.args.tokens.now, ← c.in_ok-give_callers.ensures.ok) c.give_own.ensures.ok
