-- The labels passed stand behind the text that was there.
use Rattle.std.proofs.Common.{◌-◌, length}
use Rattle.wire_dns.proofs.Runs.{Walked}
use Rattle.wire_dns.proofs.names.put_run.Given as goal

abbrev pub invariant-loop-label : goal.invariant-loop-label
invariant-loop-label l = Walked l.msg l.fn.text.items l.at l.text.items l.place

abbrev pub decreases-loop-label : goal.decreases-loop-label
decreases-loop-label l = length l.msg - l.place
