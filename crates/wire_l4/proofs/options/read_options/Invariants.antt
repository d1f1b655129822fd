-- What was found so far, joined with what the rest gives, is what all octets give.
use Rattle.std.proofs.Common.{◌≡◌, length}
use Rattle.std.specs.Option.{option_map}
use Rattle.wire_l4.specs.Options.{items_of}
use Rattle.wire_l4.specs.Walk.{joined, known_in, known_seen}
use Rattle.wire_l4.proofs.options.read_options.Given as goal

abbrev pub invariant-loop-rest : goal.invariant-loop-rest
invariant-loop-rest l =
    option_map (λ items. joined (known_seen l.found) (known_in items)) (items_of l.rest) ≡ option_map known_in (items_of l.bytes)

abbrev pub decreases-loop-rest : goal.decreases-loop-rest
decreases-loop-rest l = length l.rest
