-- The runs of labels between the pointers, each before the one that led to it.
use Rattle.std.proofs.Common.{drop, ap, ◌∙◌}
use Rattle.wire_dns.proofs.Runs.{first-bad, forward-bad, next-bad, next-run, run-ended, first-run}
use Rattle.wire_dns.proofs.names.read_name.Goals as goal

pub returns-in-Err-clause-reads : goal.returns-in-Err-clause-reads
returns-in-Err-clause-reads c = first-bad c.args.msg.now c.args.at _ c.new-text.ensures c.in-Err.ensures.bad

pub loop-pointer-init : goal.loop-pointer-init
loop-pointer-init c = first-run c.args.msg.now c.args.at _ _ _ c.new-text.ensures c.in-Ok.ensures.put

pub returns-then-target-limit-clause-reads : goal.returns-then-target-limit-clause-reads
returns-then-target-limit-clause-reads c =
    forward-bad c.args.msg.now c.args.at _ _ c.in-Some.target (rw c.in-Some.is at c.loop-pointer.invariant) c.if-target-limit.true

pub returns-in-Err-put_run-clause-reads : goal.returns-in-Err-put_run-clause-reads
returns-in-Err-put_run-clause-reads c =
    next-bad c.args.msg.now c.args.at _ _ c.in-Some.target (rw c.in-Some.is at c.loop-pointer.invariant) c.if-target-limit.false c.in-Err-put_run.ensures.bad

pub loop-pointer-preserved : goal.loop-pointer-preserved
loop-pointer-preserved c =
    next-run c.args.msg.now c.args.at _ _ _ c.in-Some.target _ (rw c.in-Some.is at c.loop-pointer.invariant) c.if-target-limit.false c.in-Ok-put_run.ensures.put

pub returns-clause-reads : goal.returns-clause-reads
returns-clause-reads c =
    run-ended c.args.msg.now c.args.at c.loop-pointer.text.items _ c.loop-pointer.limit _ (rw c.in_default.is at c.loop-pointer.invariant)
    (rw c.as_slice.ensures.value at c.as_slice.ensures.fits) (c.without_dot.ensures.is ∙ ap (drop 1) c.as_slice.ensures.value) c.in-Ok.ensures.behind
