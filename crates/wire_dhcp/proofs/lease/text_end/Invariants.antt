-- What stands before, without its zeros.
use Rattle.std.proofs.Common.{◌≡◌, ◌≤◌, take}
use Rattle.wire_dhcp.specs.Leases.{without_zeros}
use Rattle.wire_dhcp.proofs.lease.text_end.Given as goal

abbrev pub invariant-loop-i : goal.invariant-loop-i
invariant-loop-i l = (take l.end l.octets ≡ without_zeros (take l.i l.octets)) × (l.end ≤ l.i)
