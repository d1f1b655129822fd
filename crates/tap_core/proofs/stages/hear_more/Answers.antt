-- The download ends at the record, or doesn't.
use Rattle.std.proofs.Common.{◌∷◌, ◌++◌, []}
use Rattle.tap_core.proofs.Steps.{following-next, ended-first}
use Rattle.tap_core.proofs.stages.hear_more.Goals as goal

pub returns-in-Some : goal.returns-in-Some
returns-in-Some c = λ most records f.
    let r = c.args.«record».now in
    let heard = c.in_ok-reset.ensures in
    let listens = heard.listens records f.listens in
    ended-first most records r c.args.listener c.hear_segment.new.l c.args.download c.hear_segment.new.download _ c.in-Some.end _ c.hear_segment.ensures.syn f
    (heard.follows records f.listens most f.irs _ f.room f.follows) c.in-Some.ensures
    (λ irs board follows. c.seen_of.ensures most irs board (records ++ r ∷ []) follows listens.counts)

pub returns-in-None : goal.returns-in-None
returns-in-None c = λ most records f.
    let heard = c.in_ok-reset.ensures in
    following-next most records c.args.«record».now c.args.listener c.hear_segment.new.l c.args.download c.hear_segment.new.download _ c.hear_segment.ensures.syn f
    (heard.follows records f.listens most f.irs _ f.room f.follows) c.in-None.ensures c.hear_segment.ensures.room (heard.listens records f.listens)
