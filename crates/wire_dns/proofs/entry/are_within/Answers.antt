-- Each record leads to the next.
use Rattle.std.proofs.Common.{sym, ◌∙◌}
use Rattle.wire_dns.proofs.Walks.{within-none, within-step, within-end}
use Rattle.wire_dns.proofs.entry.are_within.Goals as goal

pub returns-in_default : goal.returns-in_default
returns-in_default c = sym (within-none c.args.octets.now c.loop-left.place _ c.loop-left-test.true (rw c.in_default.is at c.entry_at.ensures.at)) ∙ c.loop-left.invariant

pub loop-left-preserved : goal.loop-left-preserved
loop-left-preserved c = sym (within-step c.args.octets.now c.loop-left.place _ c.in-Some.entry c.loop-left-test.true c.in-Some.ensures.at) ∙ c.loop-left.invariant

pub returns : goal.returns
returns c = sym (within-end c.args.octets.now c.loop-left.place _ c.loop-left-test.false) ∙ c.loop-left.invariant
