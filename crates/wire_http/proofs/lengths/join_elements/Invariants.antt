use Rattle.std.proofs.Common.{◌≡◌, length}
use Rattle.wire_http.specs.Fields.{elements}
use Rattle.wire_http.specs.Walk.{joined_all}
use Rattle.wire_http.proofs.lengths.join_elements.Given as goal

abbrev pub invariant-loop-after : goal.invariant-loop-after
invariant-loop-after l = joined_all l.stated (elements l.rest) ≡ joined_all l.fn.so_far (elements l.value)

abbrev pub decreases-loop-after : goal.decreases-loop-after
decreases-loop-after l = length l.rest
