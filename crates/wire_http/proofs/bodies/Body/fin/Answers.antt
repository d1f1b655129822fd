use Rattle.std.proofs.Common.{◌∙◌, true, sym, ap, subst}
use Rattle.wire_http.specs.declared.bodies.BodyState.{BodyState}
use Rattle.wire_http.specs.Feeding.{IsState, answer_at_end}
use Rattle.wire_http.proofs.PieceLaws.{end_state_is}
use Rattle.wire_http.proofs.bodies.Body.fin.Goals as goal

pub returns : goal.returns
returns c framing read has =
    let same = c.state_at_end.ensures ∙ ap answer_at_end (sym has) in
    subst (λ (a : BodyState). IsState a framing true read) (sym same) (end_state_is framing read)
