-- Addresses one after the other.
use Rattle.std.proofs.Common.{◌∷◌, [], ◌++◌, take, ap, ◌∙◌}
use Rattle.wire_dhcp.specs.Leases.{unicast_in}
use Rattle.wire_dhcp.proofs.Values.{servers-more, servers-end}
use Rattle.wire_dhcp.proofs.lease.servers_in.Goals as goal

pub loop-rest-preserved : goal.loop-rest-preserved
loop-rest-preserved c = (
  servers-more c.loop-rest.servers c.put_server.new.servers c.loop-rest.rest.now _ c.loop-rest-test.true
      (c.put_server.ensures.servers ∙ ap (λ n. take 3 (c.loop-rest.servers ++ unicast_in (n ∷ []))) c.u32_at.ensures) c.loop-rest.invariant.0,
  c.put_server.ensures.bound,
)

pub returns : goal.returns
returns c = servers-end c.loop-rest.servers c.loop-rest.rest.now _ c.loop-rest-test.false c.loop-rest.invariant.1 c.loop-rest.invariant.0
