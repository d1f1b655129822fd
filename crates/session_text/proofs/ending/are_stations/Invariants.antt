use Rattle.std.proofs.Common.{◌≡◌}
use Rattle.session_text.specs.Ending.{are_stations}
use Rattle.session_text.proofs.ending.are_stations.Given as goal

abbrev pub invariant-loop-left : goal.invariant-loop-left
invariant-loop-left l = are_stations l.draft l.count ≡ are_stations l.draft l.left

abbrev pub decreases-loop-left : goal.decreases-loop-left
decreases-loop-left l = l.left
