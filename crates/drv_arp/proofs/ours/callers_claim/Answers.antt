use Rattle.std.proofs.Common.{◌+◌, drop, sym, ap, ◌∙◌}
use Rattle.drv_arp.specs.Hears.{first_claim, or_else}
use Rattle.drv_arp.proofs.Walks.{claim_more}
use Rattle.drv_arp.proofs.ours.callers_claim.Goals as goal

pub returns-in-Some : goal.returns-in-Some
returns-in-Some c =
    let cs = c.args.children.now.live in
    sym (ap (λ o. or_else o (first_claim c.args.ip.0 (drop (c.loop-i.i + 1) cs))) c.in-Some.is)
    ∙ sym (claim_more c.args.ip.0 c.loop-i.i cs c.at.result.now c.claim_of.result c.at.ensures c.claim_of.ensures)
    ∙ c.loop-i.invariant

pub loop-i-preserved : goal.loop-i-preserved
loop-i-preserved c =
    let cs = c.args.children.now.live in
    sym (ap (λ o. or_else o (first_claim c.args.ip.0 (drop (c.loop-i.i + 1) cs))) c.in_default.is)
    ∙ sym (claim_more c.args.ip.0 c.loop-i.i cs c.at.result.now c.claim_of.result c.at.ensures c.claim_of.ensures)
    ∙ c.loop-i.invariant
