-- By the stage.
use Rattle.std.proofs.Common.{◌++◌, ℕ, take, sym, ap, ◌∙◌, subst}
use Rattle.load_core.specs.Taken.{ReadsOn}
use Rattle.load_core.proofs.Standing.{feed-heads, feed-bad, feed-behind, behind-bound, behind-on}
use Rattle.load_core.proofs.load.take_piece.Goals as goal

pub returns-in-Heads-clause-stands : goal.returns-in-Heads-clause-stands
returns-in-Heads-clause-stands c stream h bound =
    let a = c.args in
    c.take_heads.ensures.stands stream (feed-heads a.stage a.kept.now.items a.placed.now.items a.most stream c.in-Heads.is h) bound

pub returns-in-BadHead-clause-stands : goal.returns-in-BadHead-clause-stands
returns-in-BadHead-clause-stands c stream h bound =
    let a = c.args in
    feed-bad a.stage a.kept.now.items a.placed.now.items a.most stream a.piece.now c.in-BadHead.is h

pub returns-in_ok-read_piece-in-Behind-clause-stands : goal.returns-in_ok-read_piece-in-Behind-clause-stands
returns-in_ok-read_piece-in-Behind-clause-stands c stream h bound =
    let a = c.args in
    let r = c.in-Behind.reading in
    let now = c.read_piece.new.reading in
    let after = c.read_piece.new.placed.items in
    let b = feed-behind a.stage r a.kept.now.items a.placed.now.items a.most stream c.in-Behind.is h in
    let room = c.room_of-room.ensures in
    let on = c.in_ok-read_piece-in-Behind.ensures.reads b.rest b.octets b.reads
    (b.placed_is ∙ ap (λ (n : ℕ). take n b.octets) (sym room)) (behind-bound r a.placed.now.items a.most stream a.piece.now _ b bound) in
    behind-on r now a.placed.now.items after a.most stream a.piece.now b c.in_ok-read_piece-in-Behind.ensures.info
    (subst (λ (n : ℕ). ReadsOn now n after (b.rest ++ a.piece.now) b.octets) room on)
