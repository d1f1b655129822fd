-- The stage behind the piece; where there is no memory, what was there before.
use Rattle.std.proofs.Common.{◌≡◌, ◌++◌, ℕ, List, take, sym, ap, ◌∙◌, subst, arith, length-append}
use Rattle.load_core.specs.Taken.{StandsAt, HasTaken}
use Rattle.load_core.proofs.load.Load.feed.Goals as goal

pub returns-in-Ok-clause-taken : goal.returns-in-Ok-clause-taken
unfolding HasTaken
returns-in-Ok-clause-taken c most stream h bound =
    let load = c.args.self.now in
    let at = subst (λ (m : ℕ). StandsAt load.stage load.kept.items load.placed.items m stream) (sym h.0) h.1 in (
      h.0,
      subst (λ (m : ℕ). StandsAt c.in-Ok.stage c.take_piece.new.kept.items c.take_piece.new.placed.items m (stream ++ c.args.piece.now)) h.0
          (c.in-Ok.ensures.stands stream at bound),
      omega (arith, c.saturating_add-self.ensures, h.2, bound, length-append stream c.args.piece.now),
    )

pub returns-in-Err-clause-stays : goal.returns-in-Err-clause-stays
unfolding HasTaken
returns-in-Err-clause-stays c most stream h =
    let load = c.args.self.now in
    let grown = c.take_piece.new in
    let kept : c.truncate.new.self.items ≡ load.kept.items =
    c.truncate.ensures.items ∙ ap (λ (n : ℕ). take n grown.kept.items) (omega (arith, c.len-kept.ensures)) ∙ c.take_piece.ensures.kept in
    let placed : c.truncate-in-Err.new.self.items ≡ load.placed.items =
    c.truncate-in-Err.ensures.items ∙ ap (λ (n : ℕ). take n grown.placed.items) (omega (arith, c.len-placed.ensures)) ∙ c.take_piece.ensures.placed in (
      h.0,
      subst (λ (t : List ℕ). StandsAt load.stage t c.truncate-in-Err.new.self.items most stream) (sym kept)
          (subst (λ (t : List ℕ). StandsAt load.stage load.kept.items t most stream) (sym placed) h.1),
      h.2,
    )
