use Rattle.std.proofs.Common.{length, ap, arith}
use Rattle.session_text.proofs.Joined.{image_none, image_size}
use Rattle.session_text.proofs.pieces.image_length.Goals as goal

pub overflow_add-length : goal.overflow_add-length
overflow_add-length c =
    let size = image_size c.args.pieces.now c.loop-piece.piece-index c.piece-item.result c.loop-piece-test.true c.piece-item.is in
    omega (arith, size, c.piece_length-length.ensures, c.loop-piece.invariant, c.requires)

pub loop-piece-preserved : goal.loop-piece-preserved
loop-piece-preserved c =
    let size = image_size c.args.pieces.now c.loop-piece.piece-index c.piece-item.result c.loop-piece-test.true c.piece-item.is in
    omega (arith, size, c.piece_length-length.ensures, c.loop-piece.invariant)

pub returns : goal.returns
returns c =
    let none = image_none c.args.pieces.now c.loop-piece.piece-index c.loop-piece-test.false in
    omega (arith, ap length none, c.loop-piece.invariant)
