-- Each answer leads to the next.
use Rattle.std.proofs.Common.{sym, ◌∙◌}
use Rattle.wire_dns.proofs.Walks.{answers-none, answers-bad, answers-step, answers-end}
use Rattle.wire_dns.proofs.entry.behind_answers.Goals as goal

pub returns-in_default-clause-none : goal.returns-in_default-clause-none
returns-in_default-clause-none c = λ others.
    sym (c.loop-left.invariant others) ∙ answers-none c.args.octets.now c.loop-left.place others _ c.loop-left-test.true (rw c.in_default.is at c.entry_at.ensures.at)

pub returns-in-Err-clause-none : goal.returns-in-Err-clause-none
returns-in-Err-clause-none c = λ others.
    sym (c.loop-left.invariant others) ∙ answers-bad c.args.octets.now c.loop-left.place others _ c.in-Some.entry c.loop-left-test.true c.in-Some.ensures.at c.in-Err.ensures

pub loop-left-preserved : goal.loop-left-preserved
loop-left-preserved c = λ others.
    sym (answers-step c.args.octets.now c.loop-left.place others _ c.in-Some.entry c.in_default-value_of.field-0 c.loop-left-test.true c.in-Some.ensures.at c.in_default-value_of.ensures)
    ∙ c.loop-left.invariant others

pub returns-clause-some : goal.returns-clause-some
returns-clause-some c = λ others.
    sym (c.loop-left.invariant others) ∙ answers-end c.args.octets.now c.loop-left.place others _ c.loop-left-test.false
