use Rattle.std.proofs.Common.{◌+◌, filter, drop, sym, ap, ◌∙◌}
use Rattle.drv_ip4.specs.Hearing.{all_given, is_for}
use Rattle.drv_ip4.proofs.Steps.{given-at}
use Rattle.drv_ip4.proofs.hearing.give_own.Goals as goal

pub loop-i-preserved : goal.loop-i-preserved
loop-i-preserved c =
    let d = c.args.d.now in
    let test = is_for c.args.home d in
    let cs = c.args.children.now.own in (
      ap (all_given d (filter test (drop (c.loop-i.i + 1) cs))) c.in_ok-offer.ensures.ok
          ∙ sym (given-at d test cs c.loop-i.i c.own_at.result.now c.loop-i.tokens c.own_at.ensures)
          ∙ c.loop-i.invariant.0,
      λ o. c.offer.ensures.keeps o ∙ c.loop-i.invariant.1 o,
    )
