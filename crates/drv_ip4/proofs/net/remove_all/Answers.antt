use Rattle.std.proofs.Common.{◌+◌, drop, ap, ◌∙◌}
use Rattle.drv_ip4.specs.Nets.{all_without}
use Rattle.drv_ip4.proofs.Removing.{one-gone}
use Rattle.drv_ip4.proofs.net.remove_all.Goals as goal

pub loop-r-preserved : goal.loop-r-preserved
loop-r-preserved c =
    ap (all_without (drop (c.loop-r.r-index + 1) c.args.gone.now)) c.remove.ensures.routes
    ∙ one-gone c.args.gone.now c.loop-r.r-index _ c.loop-r.routes c.loop-r-test.true
    ∙ c.loop-r.invariant
