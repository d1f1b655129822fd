use Rattle.std.proofs.Common.{◌+◌, filter, drop, sym, ap, ◌∙◌}
use Rattle.drv_udp4.specs.Hearing.{all_given, arrival_seen, is_for}
use Rattle.drv_udp4.proofs.Steps.{any-found, given-at, on-err}
use Rattle.drv_udp4.proofs.hearing.give_callers.Goals as goal

pub loop-i-preserved : goal.loop-i-preserved
loop-i-preserved c =
    let h = arrival_seen c.args.a.now in
    let test = is_for (arrival_seen c.args.a.now) in
    let cs = c.args.children.now.live in (
      ap (all_given h (filter test (drop (c.loop-i.i + 1) cs))) c.in_ok-offer.ensures.ok
          ∙ sym (given-at h test cs c.loop-i.i c.at.result.now c.loop-i.tokens c.at.ensures)
          ∙ c.loop-i.invariant.0,
      λ o. c.offer.ensures.keeps o ∙ c.loop-i.invariant.1 o,
    )

pub returns-in_err-offer-clause-free : goal.returns-in_err-offer-clause-free
returns-in_err-offer-clause-free c =
    let test = is_for (arrival_seen c.args.a.now) in
    on-err c.from_residual.result _ (any-found test c.args.children.now.live c.loop-i.i c.at.result.now c.at.ensures c.in_err-offer.ensures.free)
