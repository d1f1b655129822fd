use Rattle.std.proofs.Common.{arith}
use Rattle.wire_pcap.proofs.Splitting.{partial_of}
use Rattle.wire_pcap.proofs.head.next_of.Goals as goal

pub returns-then-bytes-kept : goal.returns-then-bytes-kept
returns-then-bytes-kept c =
    partial_of c.args.form.order c.args.bytes.now (λ i. omega (arith, c.type_inv.bytes i))
    (omega (arith, c.if-bytes-kept.true, c.kept_of-kept.ensures)) (omega (arith, c.if-kept-gt-MAX_KEPT.false, c.kept_of-kept.ensures))
