-- Those counted so far and those of the rest are all.
use Rattle.std.proofs.Common.{◌≡◌, ◌≤◌, ◌+◌, length}
use Rattle.wire_dhcp.specs.Options.{count_of, items_in}
use Rattle.wire_dhcp.proofs.options.count.Given as goal

abbrev pub invariant-loop-rest : goal.invariant-loop-rest
invariant-loop-rest l =
    (l.count + count_of l.code (items_in l.rest) ≡ count_of l.code (items_in l.octets)) × (l.count + length l.rest ≤ length l.octets)

abbrev pub decreases-loop-rest : goal.decreases-loop-rest
decreases-loop-rest l = length l.rest
