use Rattle.std.proofs.Common.{◌∙◌}
use Rattle.wire_http.proofs.Feeds.{feed_walked, feed_early, feed_beyond, feed_length, feed_read, feed_placed}
use Rattle.wire_http.proofs.runs.feed_stage.Goals as goal

pub loop-read-preserved : goal.loop-read-preserved
loop-read-preserved c =
    let h = c.advance-step.ensures in
    let i = c.loop-read.invariant in
    let piece = c.args.piece.now in
    let place0 = c.args.place.now in
    let place1 = c.loop-read.place in
    let sub = c.advance-step.new.place in
    let r = c.loop-read.read in
    let p = c.loop-read.placed in
    let dr = c.advance-step.result.read in
    let dp = c.advance-step.result.placed in
    let same = feed_length c.args.stage c.loop-read.now c.advance-step.result.stage piece place0 place1 sub r p dr dp i.0 i.3 i.4 h.same in (
      feed_walked c.args.stage c.loop-read.now c.advance-step.result.stage piece place0 place1 sub r p dr dp i.0 i.3 i.4 h.walked,
      feed_early c.args.stage c.loop-read.now c.advance-step.result.stage piece place0 place1 sub r p dr dp i.0 i.3 i.4 i.1 h.early,
      feed_beyond c.args.stage c.loop-read.now c.advance-step.result.stage piece place0 place1 sub r p dr dp i.0 i.3 i.4 i.2 h.beyond,
      feed_read c.args.stage c.loop-read.now c.advance-step.result.stage piece place0 place1 sub r p dr dp i.0 i.3 i.4 h.read,
      feed_placed c.args.stage c.loop-read.now c.advance-step.result.stage piece place0 place1 sub r p dr dp i.0 i.3 i.4 h.placed same,
      same ∙ i.5,
    )
