-- The rest has the same options.
use Rattle.std.proofs.Common.{◌≡◌, ◌≤◌, length}
use Rattle.wire_dhcp.specs.Options.{items_in, is_ended}
use Rattle.wire_dhcp.proofs.options.skip_padding.Given as goal

abbrev pub invariant-loop-rest : goal.invariant-loop-rest
invariant-loop-rest l = (items_in l.rest ≡ items_in l.octets) × (is_ended l.rest ≡ is_ended l.octets) × (length l.rest ≤ length l.octets)

abbrev pub decreases-loop-rest : goal.decreases-loop-rest
decreases-loop-rest l = length l.rest
