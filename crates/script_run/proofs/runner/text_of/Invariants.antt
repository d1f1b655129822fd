use Rattle.std.proofs.Common.{◌≡◌, ◌++◌, drop}
use Rattle.script_run.specs.Running.{text_of}
use Rattle.script_run.proofs.runner.text_of.Given as goal

abbrev pub invariant-loop-line : goal.invariant-loop-line
invariant-loop-line l = l.text.items ++ text_of (drop l.line-index l.lines) ≡ text_of l.lines
