use Rattle.std.proofs.Common.{sym, ◌∙◌}
use Rattle.drv_udp4.specs.Udps.{is_homeless_child}
use Rattle.drv_udp4.proofs.Steps.{any_behind, any_here}
use Rattle.drv_udp4.proofs.waiting.own_homeless.Goals as goal

pub returns-then-is_homeless : goal.returns-then-is_homeless
returns-then-is_homeless c =
    any_here (is_homeless_child c.args.serial) c.args.children.now.own c.loop-i.i c.own_at.result.now _ c.own_at.ensures (sym c.is_homeless.ensures ∙ c.if-is_homeless.true) c.loop-i.invariant

pub loop-i-preserved : goal.loop-i-preserved
loop-i-preserved c =
    any_behind (is_homeless_child c.args.serial) c.args.children.now.own c.loop-i.i c.own_at.result.now _ c.own_at.ensures (sym c.is_homeless.ensures ∙ c.if-is_homeless.false) c.loop-i.invariant
