-- The octets are those of the parts that were read.
use Rattle.std.proofs.Common.{sym, ◌∙◌, arith}
use Rattle.wire_link.proofs.Spelled.{arp-spelled}
use Rattle.wire_link.proofs.resolution.read_arp.Goals as goal

pub returns-clause-spelled : goal.returns-clause-spelled
returns-clause-spelled c =
    let spelled = arp-spelled c.args.bytes.now (sym c.holds_arp.ensures ∙ c.if-not-holds_arp.false) (λ i. omega (arith, c.type_inv.bytes i)) in
    rw (c.mac_at.ensures, c.mac_at-2.ensures, c.u16_at.ensures, c.u32_at.ensures, c.u32_at-2.ensures) spelled
