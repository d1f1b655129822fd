use Rattle.std.proofs.Common.{rules, ◌≡◌, ◌++◌, ◌∙◌, length, drop, ap}
use Rattle.wire_link.proofs.Addresses.{six}
use Rattle.wire_link.proofs.fields.put_mac.Goals as goal

pub returns-clause-cells : goal.returns-clause-cells
returns-clause-cells c =
    let h : length c.args.mac.0 ≡ 6 = search rules in
    ap (λ octets. octets ++ drop 6 c.args.octets.now) (c.copy_from_slice.ensures.after ∙ six c.args.mac.0 h)
