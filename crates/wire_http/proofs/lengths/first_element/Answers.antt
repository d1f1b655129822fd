use Rattle.std.proofs.Common.{◌<◌, ◌+◌, ◌∷◌, [], List, ℕ, length, drop, sym, ap, ◌∙◌, arith}
use Rattle.std.proofs.lemmas.List.{take_rest}
use Rattle.wire_http.specs.Fields.{elements}
use Rattle.wire_http.proofs.Texts.{elements_whole, elements_cut}
use Rattle.wire_http.proofs.lengths.first_element.Goals as goal

pub returns-then-end-text-clause-first : goal.returns-then-end-text-clause-first
returns-then-end-text-clause-first c =
    elements_whole _ _ c.if-end-text.true c.comma_at-end.ensures.before
    ∙ ap (λ (t : List ℕ). t ∷ []) (sym c.trim-element.ensures)

pub returns-clause-first : goal.returns-clause-first
returns-clause-first c =
    let text = c.args.text.now in
    let end = c.comma_at-end.result in
    let h : end < length text = omega arith in
    elements_cut text end h c.comma_at-end.ensures.before (c.comma_at-end.ensures.at h)
    ∙ ap (λ (t : List ℕ). t ∷ elements (drop (end + 1) text)) (sym c.trim-element.ensures)
    ∙ ap (λ (t : List ℕ). c.trim-element.result.now ∷ elements t) (sym (take_rest text (end + 1)))
