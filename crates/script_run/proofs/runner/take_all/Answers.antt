use Rattle.std.proofs.Common.{◌≡◌, [], ◌∷◌, ◌++◌, sym, ap, ◌∙◌}
use Rattle.std.proofs.lemmas.List.{append-nil, append_assoc}
use Rattle.script_run.specs.Lines.{fired_line}
use Rattle.script_run.specs.Running.{fired_lines, settled}
use Rattle.script_run.proofs.Taken.{none-left, taken-first}
use Rattle.script_run.proofs.runner.take_all.Goals as goal

pub loop-f-preserved : goal.loop-f-preserved
loop-f-preserved c =
    let f = c.in-Some.f in
    let before = c.loop-f.lines.items in
    let t = taken-first c.loop-f.stack f (sym c.take_fired.ensures.first ∙ c.in-Some.is) in
    let rest = c.take_fired.ensures.rest in
    record {
      lines = ap (λ l. l ++ fired_lines c.take_fired.new.self) c.in_ok-push.ensures.items
          ∙ ap (λ l. (before ++ l ∷ []) ++ fired_lines c.take_fired.new.self) c.in_ok-line.ensures
          ∙ append_assoc before (fired_line f ∷ []) (fired_lines c.take_fired.new.self)
          ∙ ap (λ s. before ++ fired_line f ∷ fired_lines s) rest
          ∙ ap (λ l. before ++ l) (sym t.lines)
          ∙ c.loop-f.invariant.lines;
      stack = ap settled rest ∙ t.rest ∙ c.loop-f.invariant.stack;
    }

pub returns-clause-lines : goal.returns-clause-lines
returns-clause-lines c =
    let none = none-left c.loop-f.stack (sym c.take_fired.ensures.first ∙ c.in_default.is) in
    sym (append-nil c.loop-f.lines.items) ∙ ap (λ l. c.loop-f.lines.items ++ l) (sym none.0) ∙ c.loop-f.invariant.lines

pub returns-clause-stack : goal.returns-clause-stack
returns-clause-stack c =
    let none = none-left c.loop-f.stack (sym c.take_fired.ensures.first ∙ c.in_default.is) in
    c.take_fired.ensures.rest ∙ none.2 ∙ none.1 ∙ c.loop-f.invariant.stack
