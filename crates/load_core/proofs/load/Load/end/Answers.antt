-- By the stage.
use Rattle.std.proofs.Common.{ℕ, sym, subst}
use Rattle.load_core.specs.Cases.{IsFirstCase}
use Rattle.load_core.specs.Taken.{IsBehind, HasTaken}
use Rattle.load_core.proofs.Standing.{feed-heads, feed-behind, feed-bad-head}
use Rattle.load_core.proofs.Meeting.{first-at-heads, bad-head-first}
use Rattle.load_core.proofs.load.Load.end.Goals as goal

pub returns-in-Heads : goal.returns-in-Heads
unfolding HasTaken
returns-in-Heads c most stream h =
    let load = c.args.self.now in
    subst (IsFirstCase most stream c.args.fin c.args.reset) (sym c.case_without.ensures)
    (first-at-heads load.kept.items load.placed.items most stream c.args.fin c.args.reset load.taken
    (feed-heads load.stage load.kept.items load.placed.items most stream c.in-Heads.is h.1) h.2)

pub returns-in-BadHead : goal.returns-in-BadHead
unfolding HasTaken
returns-in-BadHead c most stream h =
    let load = c.args.self.now in
    bad-head-first most stream c.args.fin c.args.reset
    (feed-bad-head load.stage load.kept.items load.placed.items most stream c.in-BadHead.is h.1)

pub returns-in-Behind : goal.returns-in-Behind
unfolding HasTaken
returns-in-Behind c most stream h =
    let load = c.args.self.now in
    let s = feed-behind load.stage c.in-Behind.reading load.kept.items load.placed.items most stream c.in-Behind.is h.1 in
    subst (λ (m : ℕ). IsFirstCase m stream c.args.fin c.args.reset c.case_behind.result) h.0
    (c.case_behind.ensures load.placed.items stream
    (subst (λ (m : ℕ). IsBehind c.in-Behind.reading load.placed.items m stream) (sym h.0) s) h.2)
