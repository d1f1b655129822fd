use Rattle.std.proofs.Common.{◌+◌, filter, drop, sym, ap, ◌∙◌}
use Rattle.drv_udp4.specs.Unreached.{all_refused, is_senders}
use Rattle.drv_udp4.proofs.Steps.{refused-at}
use Rattle.drv_udp4.proofs.icmp.tell_all.Goals as goal

pub loop-i-preserved : goal.loop-i-preserved
loop-i-preserved c =
    let test = is_senders c.args.home c.args.q in
    let cs = c.args.children.now.live in (
      ap (all_refused (filter test (drop (c.loop-i.i + 1) cs))) c.tell.ensures.after
          ∙ sym (refused-at test cs c.loop-i.i c.at.result.now c.loop-i.tokens c.at.ensures)
          ∙ c.loop-i.invariant.0,
      λ o. c.tell.ensures.keeps o ∙ c.loop-i.invariant.1 o,
    )
