use Rattle.std.proofs.Common.{◌≡◌, ◌≤◌, [], length, sym, ◌∙◌, arith}
use Rattle.std.proofs.lemmas.List.{append-nil}
use Rattle.script_run.proofs.Runs.{run-more, run-none}
use Rattle.script_run.proofs.runner.run_steps.Goals as goal

pub loop-step-preserved : goal.loop-step-preserved
loop-step-preserved c = λ more runs.
    let m = run-more c.loop-step.given.items c.loop-step.stack c.args.steps.now c.loop-step.step-index c.step-item.result
    c.run_step.new.given.items c.run_step.new.stack c.loop-step.lines.items c.run_step.new.lines.items more
    c.loop-step-test.true c.step-item.is c.in_ok-run_step.ensures runs in
    let w = c.loop-step.invariant m.0 m.1 in
    (w.0, w.1, m.2 ∙ w.2)

pub returns : goal.returns
returns c =
    let steps = c.args.steps.now in
    let over : length steps ≤ c.loop-step.step-index = omega (arith, c.loop-step-test.false) in
    let w = c.loop-step.invariant [] (run-none c.loop-step.given.items c.loop-step.stack steps c.loop-step.step-index over) in
    (w.0, w.1, sym (append-nil c.loop-step.lines.items) ∙ w.2)
