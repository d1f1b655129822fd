use Rattle.wire_link.specs.Seen.{frame_seen}
use Rattle.drv_mnp.specs.Hearing.{is_for}
use Rattle.drv_mnp.proofs.Steps.{both-given}
use Rattle.drv_mnp.proofs.hearing.give_all.Goals as goal

pub returns-clause-ok : goal.returns-clause-ok
returns-clause-ok c =
    let octets = c.args.a.now.octets.now in
    let test = is_for c.args.a.now.mac.0 (frame_seen c.args.a.now.ether) in
    rw (both-given octets test c.args.children.now.live c.args.children.now.own c.args.tokens.now, ← c.in_ok-give_callers.ensures.ok) c.give_own.ensures.ok
