use Rattle.std.proofs.Common.{◌≡◌, ◌<◌, List, ℕ, zero, suc, false, take, drop, sym, ap, ◌∙◌, subst, arith, length-take-le}
use Rattle.std.proofs.lemmas.List.{take_at}
use Rattle.wire_http.specs.declared.stage.Stage.{Stage}
use Rattle.wire_http.specs.Stages.{walk, allows, is_ended, after_run}
use Rattle.wire_http.proofs.RunLaws.{walk_run, run_early}
use Rattle.wire_http.proofs.runs.advance.Goals as goal

pub returns-then-not-wants_octets-clause-early : goal.returns-then-not-wants_octets-clause-early
returns-then-not-wants_octets-clause-early c k less = by k less
  where
    by : (k : ℕ) → k < 1 → is_ended (walk c.args.stage (take k c.args.piece.now)).1 ≡ false
    by zero less = c.requires.on
    by (suc k) less = absurd (omega arith)

pub returns-clause-walked : goal.returns-clause-walked
returns-clause-walked c =
    let n = c.copy_most-count.result in
    let piece = c.args.piece.now in
    let count = c.copy_most-count.ensures.count in
    let some : 0 < n = omega (arith, c.if-count-eq0.false) in
    let len = length-take-le n piece (omega arith) in
    let fits = subst (allows c.args.stage) (sym len) (c.octets_next.ensures.allows n (omega arith)) in
    let wants = c.octets_next.ensures.wanted (omega arith) in
    let placed = ap (take n) c.copy_most-count.ensures.octets ∙ take_at (take n piece) (drop n c.args.place.now) n len in
    walk_run c.args.stage (take n piece) wants (omega arith) fits
    ∙ ap (λ (m : ℕ). (take n piece, after_run c.args.stage m)) len
    ∙ ap (λ (t : List ℕ). (t, after_run c.args.stage n)) (sym placed)
    ∙ ap (λ (s : Stage). (take n c.copy_most-count.new.place, s)) (sym c.after_run.ensures)

pub returns-clause-early : goal.returns-clause-early
returns-clause-early c k less =
    let n = c.copy_most-count.result in
    let count = c.copy_most-count.ensures.count in
    let wants = c.octets_next.ensures.wanted (omega arith) in
    run_early c.args.stage c.args.piece.now n k wants c.requires.on (c.octets_next.ensures.allows n (omega arith)) (omega arith) less
