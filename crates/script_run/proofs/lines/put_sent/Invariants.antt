use Rattle.std.proofs.Common.{◌≡◌, ◌++◌, drop, map}
use Rattle.script_run.specs.Lines.{sent_line}
use Rattle.script_run.proofs.lines.put_sent.Given as goal

abbrev pub invariant-loop-t : goal.invariant-loop-t
invariant-loop-t l = l.lines.items ++ map sent_line (drop l.t-index l.tries) ≡ l.initial.lines.items ++ map sent_line l.tries
