-- What was found so far, continued by the rest, is what all of it gives.
use Rattle.std.proofs.Common.{◌≤◌, ◌+◌, ℕ, List, Option, length, unwrap_or}
use Rattle.wire_dhcp.specs.Filling.{Holds}
use Rattle.wire_dhcp.specs.Options.{items_in}
use Rattle.wire_dhcp.proofs.Joins.{IsOnTheWay}
use Rattle.wire_dhcp.proofs.options.join.Given as goal

abbrev pub invariant-loop-rest : goal.invariant-loop-rest
invariant-loop-rest l =
    ((value : Option (List ℕ)) → (base : List ℕ) → Holds value l.fn.before base l.fn.room
    → IsOnTheWay l.code value base l.found l.room (items_in l.rest) (items_in l.octets))
    × (unwrap_or l.found 0 + length l.rest ≤ unwrap_or l.fn.before 0 + length l.octets)

abbrev pub decreases-loop-rest : goal.decreases-loop-rest
decreases-loop-rest l = length l.rest
