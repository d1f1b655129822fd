use Rattle.std.proofs.Common.{◌∙◌, ◌++◌, take, false, sym, subst, inl, inr}
use Rattle.wire_http.specs.declared.bodies.BodyState.{BodyState}
use Rattle.wire_http.specs.Feeding.{IsState}
use Rattle.wire_http.proofs.PieceLaws.{stage_is, piece_state, piece_placed, piece_wants, piece_next, early_is, ended_is}
use Rattle.wire_http.proofs.bodies.Body.feed.Goals as goal

pub returns-clause-read : goal.returns-clause-read
returns-clause-read c framing read has =
    let h = c.feed_stage-step.ensures in
    stage_is framing read c.args.self.now.stage has _ _ c.feed_stage-step.result.stage h.walked

pub returns-clause-state : goal.returns-clause-state
returns-clause-state c framing read has =
    let h = c.feed_stage-step.ensures in
    let r = c.feed_stage-step.result.read in
    subst (λ (a : BodyState). IsState a framing false (read ++ take r c.args.piece.now)) (sym c.state_of.ensures)
    (piece_state framing read c.args.self.now.stage has _ _ c.feed_stage-step.result.stage h.walked)

pub returns-clause-placed : goal.returns-clause-placed
returns-clause-placed c framing read before has so_far =
    let h = c.feed_stage-step.ensures in
    piece_placed framing read c.args.self.now.stage has _ _ c.feed_stage-step.result.stage h.walked before so_far

pub returns-clause-early : goal.returns-clause-early
returns-clause-early c framing read has k less =
    early_is framing read c.args.self.now.stage has (take k c.args.piece.now) (c.feed_stage-step.ensures.early k less)

pub returns-clause-stops : goal.returns-clause-stops
returns-clause-stops c framing read has less =
    let h = c.feed_stage-step.ensures in
    let s = c.args.self.now.stage in
    let t = c.feed_stage-step.result.stage in
    elim (h.stops less) [
      | inl ended ↦ inl (λ more. ended_is t ended (sym c.state_of.ensures ∙ more))
      | inr stuck ↦ inr (
        stuck.1 (piece_wants framing read s has _ _ t h.walked stuck.0),
        λ b. piece_next framing read s has _ _ t h.walked b stuck.0,
      )
    ]
