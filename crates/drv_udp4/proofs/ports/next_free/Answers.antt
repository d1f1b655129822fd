use Rattle.std.proofs.Common.{arith}
use Rattle.drv_udp4.specs.Hearing.{everyone}
use Rattle.drv_udp4.proofs.Steps.{free_none}
use Rattle.drv_udp4.proofs.ports.next_free.Goals as goal

pub returns-clause-number : goal.returns-clause-number
returns-clause-number c =
    free_none (everyone c.args.children.now) c.args.seed c.loop-left.k c.loop-left.left _ (omega (arith, c.loop-left-test.false)) c.loop-left.invariant.whole
