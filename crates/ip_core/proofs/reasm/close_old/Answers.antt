use Rattle.std.proofs.Common.{sym, ap, ◌∙◌, arith}
use Rattle.ip_core.specs.Pools.{lasts}
use Rattle.ip_core.proofs.Closing.{closing-over, closing-end}
use Rattle.ip_core.proofs.reasm.close_old.Goals as goal

pub loop-place-preserved : goal.loop-place-preserved
loop-place-preserved c =
    let over = ap (lasts c.args.now) (sym c.index.ensures) ∙ sym c.lasts.ensures ∙ c.if-lasts.false in (
      closing-over c.args.now c.loop-place.place _ _ _ c.loop-place.invariant.0 (omega (arith, c.loop-place-test.true, c.len.ensures)) c.index.result.now over c.close.ensures.pools,
      c.close.ensures.slots ∙ c.loop-place.invariant.1,
      c.close.ensures.pools_memory ∙ c.loop-place.invariant.2,
      omega (arith, c.close.ensures.free_memory, c.loop-place.invariant.3),
    )

pub returns-clause-pools : goal.returns-clause-pools
returns-clause-pools c = closing-end _ _ _ _ c.loop-place.invariant.0 (omega (arith, c.loop-place-test.false, c.len.ensures))
