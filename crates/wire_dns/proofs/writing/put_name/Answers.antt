-- The labels one after the other.
use Rattle.std.proofs.Common.{◌<◌, ◌≤◌, ◌++◌, length, length-append, sym, ap, ◌∙◌, arith, rules}
use Rattle.wire_dns.specs.Spelling.{name_text}
use Rattle.wire_dns.proofs.Labels.{empty-text, name-start, start-fits, name-full}
use Rattle.wire_dns.proofs.writing.put_name.Goals as goal

pub returns-then-is_empty-clause-put : goal.returns-then-is_empty-clause-put
returns-then-is_empty-clause-put c = λ h.
    let none : length c.args.name.now ≤ 0 = search rules in
    c.put.ensures.put h ∙ ap (λ t. c.args.rest.now.items ++ t) (sym (empty-text c.args.name.now none))

pub returns-then-is_empty-clause-full : goal.returns-then-is_empty-clause-full
returns-then-is_empty-clause-full c = λ h.
    let none : length c.args.name.now ≤ 0 = search rules in
    let e = ap length (empty-text c.args.name.now none) in
    let full = c.put.ensures.full h in
    omega (arith, full, e)

pub loop-left-init : goal.loop-left-init
loop-left-init c =
    let some : 1 ≤ length c.args.name.now = search rules in
    record { same = name-start c.args.rest.now.items c.args.name.now some; fit = start-fits c.args.name.now some c.requires }

pub returns-then-not-put_label-clause-full : goal.returns-then-not-put_label-clause-full
returns-then-not-put_label-clause-full c = λ _.
    let full : 500 < length (c.args.rest.now.items ++ name_text c.args.name.now) =
    name-full _ c.loop-left.rest.items _ _ _ (rw c.in-Some.is at c.loop-left.invariant.same) c.next_label.ensures.labels (c.put_label.ensures.full c.if-not-put_label.true) in
    omega (arith, full, length-append c.args.rest.now.items (name_text c.args.name.now))
