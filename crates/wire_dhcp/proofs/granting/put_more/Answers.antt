use Rattle.std.proofs.Common.{◌<◌, length, arith}
use Rattle.std.proofs.lemmas.Bool.Decides.{nat_tests}
use Rattle.wire_dhcp.specs.Walk.{items_seen}
use Rattle.wire_dhcp.proofs.Granted.{more-joined}
use Rattle.wire_dhcp.proofs.granting.put_more.Goals as goal

pub returns : goal.returns
returns c =
    let some : 0 < length c.args.uri.now = grind (arith, nat_tests, c.is_empty.ensures, c.if-is_empty.false) in
    more-joined (items_seen c.args.options.now.items) (items_seen c.put_said.new.options.items) (items_seen c.put_said-2.new.options.items)
    (items_seen c.put_said-3.new.options.items) _ c.args.router.now c.args.dns.now c.args.uri.now
    c.put_said.ensures.options c.put_said-2.ensures.options c.put_said-3.ensures.options c.put_said-4.ensures.options some
