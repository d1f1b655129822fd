use Rattle.std.proofs.Common.{sym, ◌∙◌}
use Rattle.drv_ip4.specs.Lost.{is_user_of}
use Rattle.drv_ip4.proofs.Steps.{met, passed}
use Rattle.drv_ip4.proofs.defaults.is_own.Goals as goal

pub returns-then-is_user_of : goal.returns-then-is_user_of
returns-then-is_user_of c =
    sym (met (is_user_of c.args.id) c.args.children.now.own c.loop-i.i c.own_at.result.now c.own_at.ensures (sym c.is_user_of.ensures ∙ c.if-is_user_of.true))

pub loop-i-preserved : goal.loop-i-preserved
loop-i-preserved c =
    passed (is_user_of c.args.id) c.args.children.now.own c.loop-i.i c.own_at.result.now c.own_at.ensures (sym c.is_user_of.ensures ∙ c.if-is_user_of.false)
    ∙ c.loop-i.invariant
