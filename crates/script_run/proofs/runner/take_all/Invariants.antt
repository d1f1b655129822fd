use Rattle.std.proofs.Common.{◌≡◌, ◌++◌}
use Rattle.script_run.specs.Running.{fired_lines, settled}
use Rattle.script_run.proofs.Taken.{waiting}
use Rattle.script_run.proofs.runner.take_all.Given as goal

abbrev pub invariant-loop-f : goal.invariant-loop-f
invariant-loop-f l = record {
  lines : l.lines.items ++ fired_lines l.stack ≡ l.initial.lines.items ++ fired_lines l.initial.stack;
  stack : settled l.stack ≡ settled l.initial.stack;
}

abbrev pub decreases-loop-f : goal.decreases-loop-f
decreases-loop-f l = waiting l.stack
