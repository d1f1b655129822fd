-- The record accepts the connection, or doesn't.
use Rattle.std.proofs.Common.{◌∙◌, sym}
use Rattle.tap_core.proofs.Steps.{answering-next, following-first}
use Rattle.tap_core.proofs.stages.hear_second.Goals as goal

pub returns-in_default : goal.returns-in_default
returns-in_default c = λ records a.
    let heard = c.hear_answer.ensures in
    answering-next records c.args.«record».now c.args.listener c.hear_answer.new.l heard.syn a (sym c.in_default.is ∙ c.in_ok-irs.ensures.number records a.listens) (c.in_ok-irs.ensures.listens records a.listens)

pub returns : goal.returns
returns c = λ records a.
    let heard = c.hear_answer.ensures in
    following-first c.args.most records c.args.«record».now c.args.listener c.hear_answer.new.l c.in-Some.irs _ heard.syn a (sym c.in-Some.is ∙ c.in_ok-irs.ensures.number records a.listens) (c.in_ok-irs.ensures.listens records a.listens)
    c.in_ok-download.ensures.follows c.in_ok-download.ensures.room
