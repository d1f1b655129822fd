-- Those found and those of the rest are all; three are taken.
use Rattle.std.proofs.Common.{◌≡◌, ◌≤◌, ◌++◌, length, take}
use Rattle.std.specs.Prelude.{Some}
use Rattle.wire_dhcp.specs.Leases.{addresses_in, unicast_in, servers_of}
use Rattle.wire_dhcp.proofs.lease.servers_in.Given as goal

abbrev pub invariant-loop-rest : goal.invariant-loop-rest
invariant-loop-rest l = (take 3 (l.servers ++ unicast_in (addresses_in l.rest)) ≡ servers_of (Some l.octets)) × (length l.servers ≤ 3)

abbrev pub decreases-loop-rest : goal.decreases-loop-rest
decreases-loop-rest l = length l.rest
