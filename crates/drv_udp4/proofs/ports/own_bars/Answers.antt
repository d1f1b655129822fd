use Rattle.std.proofs.Common.{sym, ◌∙◌}
use Rattle.drv_udp4.specs.Ports.{is_barred_by}
use Rattle.drv_udp4.proofs.Steps.{any_behind, any_here}
use Rattle.drv_udp4.proofs.ports.own_bars.Goals as goal

pub returns-then-is_barred : goal.returns-then-is_barred
returns-then-is_barred c =
    any_here (is_barred_by c.args.home c.args.c.now) c.args.children.now.own c.loop-i.i c.own_at.result.now _ c.own_at.ensures (sym c.is_barred.ensures ∙ c.if-is_barred.true) c.loop-i.invariant

pub loop-i-preserved : goal.loop-i-preserved
loop-i-preserved c =
    any_behind (is_barred_by c.args.home c.args.c.now) c.args.children.now.own c.loop-i.i c.own_at.result.now _ c.own_at.ensures (sym c.is_barred.ensures ∙ c.if-is_barred.false) c.loop-i.invariant
