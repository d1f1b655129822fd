use Rattle.std.proofs.Common.{◌≤◌, ◌-◌, length}
use Rattle.load_core.specs.Final.{HasPassed}
use Rattle.load_core.proofs.heads.find_final.Given as goal

abbrev pub invariant-loop-next : goal.invariant-loop-next
invariant-loop-next l = record { inside : l.at ≤ length l.bytes; passed : HasPassed l.bytes l.at }

abbrev pub decreases-loop-next : goal.decreases-loop-next
decreases-loop-next l = length l.bytes - l.at
