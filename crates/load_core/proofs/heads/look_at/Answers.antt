-- What stands behind interim heads, told of the slice from there on.
use Rattle.std.proofs.Common.{ℕ, List, refl, subst, sym, ◌∙◌}
use Rattle.std.proofs.lemmas.List.{take_rest}
use Rattle.httparse.specs.Grammar.{ResponseHead}
use Rattle.wire_http.specs.Heads.{ReadsHead}
use Rattle.wire_http.specs.Info.{HeadIs, MayBecomeHead}
use Rattle.load_core.proofs.HeadRuns.{look-interim, passed-no, passed-may}
use Rattle.load_core.proofs.heads.look_at.Goals as goal

pub returns-in-Whole-clause-interim : goal.returns-in-Whole-clause-interim
returns-in-Whole-clause-interim c =
    let w = c.in-Whole.ensures.whole in
    let rest = take_rest c.args.bytes.now c.args.at in
    let h = subst (λ (t : List ℕ). HeadIs t w.0 c.in-Whole.info c.in-Whole.len) rest w.1 in
    look-interim c.args.bytes.now c.args.at c.in-Whole.len w.0 c.in-Whole.info c.requires.passed c.requires.inside h
    (sym c.is_interim.ensures ∙ c.if-is_interim.true)

pub returns-in-More-clause-no : goal.returns-in-More-clause-no
returns-in-More-clause-no c _ =
    let rest = take_rest c.args.bytes.now c.args.at in
    let none = subst (λ (t : List ℕ). (h : ResponseHead) (r : List ℕ) → ¬ (ReadsHead t h r)) rest c.in-More.ensures.found in
    passed-no c.args.bytes.now c.args.at c.requires.passed none

pub returns-in-More-clause-more : goal.returns-in-More-clause-more
returns-in-More-clause-more c _ =
    let rest = take_rest c.args.bytes.now c.args.at in
    let none = subst (λ (t : List ℕ). (h : ResponseHead) (r : List ℕ) → ¬ (ReadsHead t h r)) rest c.in-More.ensures.found in
    let may = subst MayBecomeHead rest (c.in-More.ensures.more refl) in
    passed-may c.args.bytes.now c.args.at c.requires.passed none may
