use Rattle.std.proofs.Common.{sym, ◌∙◌}
use Rattle.drv_udp4.specs.Hearing.{arrival_seen, is_for}
use Rattle.drv_udp4.proofs.Steps.{any_behind, any_here}
use Rattle.drv_udp4.proofs.hearing.callers_hear.Goals as goal

pub returns-then-passes : goal.returns-then-passes
returns-then-passes c =
    any_here (is_for (arrival_seen c.args.a.now)) c.args.children.now.live c.loop-i.i c.at.result.now _ c.at.ensures (sym c.passes.ensures ∙ c.if-passes.true) c.loop-i.invariant

pub loop-i-preserved : goal.loop-i-preserved
loop-i-preserved c =
    any_behind (is_for (arrival_seen c.args.a.now)) c.args.children.now.live c.loop-i.i c.at.result.now _ c.at.ensures (sym c.passes.ensures ∙ c.if-passes.false) c.loop-i.invariant
