use Rattle.std.proofs.Common.{◌≡◌, List, ◌++◌, drop}
use Rattle.doc_text.specs.declared.trace.TraceLine.{TraceLine}
use Rattle.script_run.specs.Running.{RunsTo}
use Rattle.script_run.proofs.runner.run_steps.Given as goal

-- whatever the other steps run to, all run to that behind the lines so far
abbrev pub invariant-loop-step : goal.invariant-loop-step
invariant-loop-step l =
    (more : List TraceLine) → RunsTo l.given.items l.stack (drop l.step-index l.steps) more
    → (all : List TraceLine) × RunsTo l.initial.given.items l.initial.stack l.steps all × (l.lines.items ++ more ≡ l.initial.lines.items ++ all)
