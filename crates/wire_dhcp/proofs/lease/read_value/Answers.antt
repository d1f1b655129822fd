-- A room as long as the value holds all of it.
use Rattle.std.proofs.Common.{length, sym, ap, ◌∙◌, Some, arith}
use Rattle.wire_dhcp.proofs.Values.{value-whole, vec-filled}
use Rattle.wire_dhcp.proofs.lease.read_value.Goals as goal

pub returns : goal.returns
returns c =
    ap (λ v. Some v) (vec-filled c.in-Ok.octets.len c.option-2.new.room c.in-Ok.octets.items (omega (arith, c.deref_mut.ensures.len, ap length c.deref_mut.ensures.value, c.option-2.auto.room)) (omega (arith, c.deref_mut.ensures.len, ap length c.deref_mut.ensures.value)))
    ∙ value-whole _ c.in-Some.size c.deref_mut.result.now c.option-2.new.room (sym c.in-Some.is ∙ c.option.ensures.size)
    (ap length c.deref_mut.ensures.value ∙ c.in-Ok.ensures) c.option-2.ensures.text
