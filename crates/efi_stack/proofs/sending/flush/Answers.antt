use Rattle.efi_stack.proofs.Fronts.{none-waits, up-to}
use Rattle.std.proofs.Common.{length}
use Rattle.efi_stack.proofs.sending.flush.Goals as goal

pub returns-clause-tried : goal.returns-clause-tried
returns-clause-tried g c =
    up-to 18446744073709551615 c.loop-sent.tried (length c.loop-sent.snp.queue) (length c.args.snp.now.queue) c.loop-sent.invariant.small
    (none-waits c.loop-sent.snp c.flush_one.new.self (g.L.Link.wire c.loop-sent.link) (g.L.Link.wire c.flush_one.new.link) c.in_ok-sent.field-0 c.in_default.is c.in_ok-sent.ensures.flushes)
    c.loop-sent.invariant.tried
