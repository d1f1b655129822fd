use Rattle.std.proofs.Common.{sym, ◌∙◌}
use Rattle.drv_udp4.specs.Ports.{has_port}
use Rattle.drv_udp4.proofs.Steps.{any_behind, any_here}
use Rattle.drv_udp4.proofs.ports.own_have.Goals as goal

pub returns-then-is_at_port : goal.returns-then-is_at_port
returns-then-is_at_port c =
    any_here (has_port c.args.port) c.args.children.now.own c.loop-i.i c.own_at.result.now _ c.own_at.ensures (sym c.is_at_port.ensures ∙ c.if-is_at_port.true) c.loop-i.invariant

pub loop-i-preserved : goal.loop-i-preserved
loop-i-preserved c =
    any_behind (has_port c.args.port) c.args.children.now.own c.loop-i.i c.own_at.result.now _ c.own_at.ensures (sym c.is_at_port.ensures ∙ c.if-is_at_port.false) c.loop-i.invariant
