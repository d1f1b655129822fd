-- The last octet that isn't zero ends the text.
use Rattle.std.proofs.Common.{◌∙◌, ap, take, arith}
use Rattle.std.proofs.lemmas.List.{take_all}
use Rattle.wire_dhcp.specs.Leases.{without_zeros}
use Rattle.wire_dhcp.proofs.Values.{zeros-more, zeros-end}
use Rattle.wire_dhcp.proofs.lease.text_end.Goals as goal
use Rattle.wire_dhcp.proofs.lease.text_end.Goals.{then-octet-ne0, else-octet-ne0}

pub loop-i-preserved : goal.loop-i-preserved
loop-i-preserved c = elim c.if-octet-ne0.branch [
  | then-octet-ne0 w ↦ (
    ap (λ n. take n c.args.octets.now) w.end-is ∙ zeros-end c.args.octets.now c.loop-i.i c.loop-i-test.true w.if-octet-ne0.true,
    omega arith,
  )
  | else-octet-ne0 w ↦ (
    ap (λ n. take n c.args.octets.now) w.end-is
        ∙ zeros-more c.args.octets.now c.loop-i.i c.loop-i.end c.loop-i-test.true w.if-octet-ne0.false c.loop-i.invariant.0,
    omega arith,
  )
]

pub returns-clause-text : goal.returns-clause-text
returns-clause-text c = c.loop-i.invariant.0 ∙ ap without_zeros (take_all c.loop-i.i c.args.octets.now c.loop-i-test.false)
