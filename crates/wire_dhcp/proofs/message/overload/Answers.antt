-- What option 52 says.
use Rattle.std.proofs.Common.{ap, get_or}
use Rattle.wire_dhcp.proofs.Fields.{joins-as}
use Rattle.wire_dhcp.proofs.Joins.{holds-nothing}
use Rattle.wire_dhcp.proofs.message.overload.Goals as goal

pub returns : goal.returns
returns c =
    let held = joins-as 52 _ _ _ _ _ _ c.options_field.ensures.field c.join-size.ensures.joined _ _ (holds-nothing _) in
    c.one_octet.ensures _ held.size (ap (λ r. get_or r 0 0) held.text)
