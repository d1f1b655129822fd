-- The octets are those of the parts that were read.
use Rattle.std.proofs.Common.{arith}
use Rattle.std.proofs.lemmas.List.{take_rest}
use Rattle.wire_link.proofs.Spelled.{frame-spelled}
use Rattle.wire_link.proofs.frame.read_ether.Goals as goal

pub returns-clause-spelled : goal.returns-clause-spelled
returns-clause-spelled c =
    let spelled = frame-spelled c.args.bytes.now (omega arith) (λ i. omega (arith, c.type_inv.bytes i)) in
    rw (c.mac_at.ensures, c.mac_at-2.ensures, c.u16_at.ensures, take_rest) spelled
