-- The rest is ended where all of it is.
use Rattle.std.proofs.Common.{◌≡◌, length}
use Rattle.wire_dhcp.specs.Options.{is_ended}
use Rattle.wire_dhcp.proofs.options.is_ended.Given as goal

abbrev pub invariant-loop-rest : goal.invariant-loop-rest
invariant-loop-rest l = is_ended l.rest ≡ is_ended l.octets

abbrev pub decreases-loop-rest : goal.decreases-loop-rest
decreases-loop-rest l = length l.rest
