use Rattle.std.proofs.Common.{◌≡◌, ◌<◌, ◌+◌, ◌-◌, ℕ, List, length, drop, subst, sym, ◌∙◌, arith}
use Rattle.session_text.specs.Image.{image_octets, piece_octets}
use Rattle.session_text.proofs.Joined.{At, at_start, at_more, at_here, at_none, image_more, image_none, piece_bound, piece_size}
use Rattle.session_text.proofs.pieces.image_octet.Goals as goal

pub loop-piece-init : goal.loop-piece-init
loop-piece-init c = at_start (image_octets c.args.pieces.now) c.args.place

pub piece_octet-requires-clause-small : goal.piece_octet-requires-clause-small
piece_octet-requires-clause-small c =
    let bound = piece_bound c.args.pieces.now c.loop-piece.piece-index c.piece-item.result c.loop-piece-test.true c.piece-item.is in
    omega (arith, bound, c.piece_length-length.ensures, c.if-left-length.true, c.requires)

pub returns-then-left-length : goal.returns-then-left-length
returns-then-left-length c =
    let all = image_octets c.args.pieces.now in
    let octets = piece_octets c.piece-item.result in
    let rest = image_octets (drop (c.loop-piece.piece-index + 1) c.args.pieces.now) in
    let more = image_more c.args.pieces.now c.loop-piece.piece-index c.piece-item.result c.loop-piece-test.true c.piece-item.is in
    let P : List ℕ → Type 0 = λ r. At all c.args.place r c.loop-piece.left in
    let h : c.loop-piece.left < length octets = omega (arith, piece_size c.piece-item.result, c.piece_length-length.ensures, c.if-left-length.true) in
    let found = at_here all c.args.place octets rest c.loop-piece.left (subst P more c.loop-piece.invariant) h in
    (found.0, c.piece_octet.ensures ∙ found.1)

pub loop-piece-preserved : goal.loop-piece-preserved
loop-piece-preserved c =
    let all = image_octets c.args.pieces.now in
    let octets = piece_octets c.piece-item.result in
    let rest = image_octets (drop (c.loop-piece.piece-index + 1) c.args.pieces.now) in
    let more = image_more c.args.pieces.now c.loop-piece.piece-index c.piece-item.result c.loop-piece-test.true c.piece-item.is in
    let P : List ℕ → Type 0 = λ r. At all c.args.place r c.loop-piece.left in
    let Q : ℕ → Type 0 = λ k. At all c.args.place rest (c.loop-piece.left - k) in
    let size : length octets ≡ c.piece_length-length.result = piece_size c.piece-item.result ∙ sym c.piece_length-length.ensures in
    subst Q size (at_more all c.args.place octets rest c.loop-piece.left (subst P more c.loop-piece.invariant) (omega (arith, size, c.if-left-length.false)))

pub returns : goal.returns
returns c =
    at_none (image_octets c.args.pieces.now) c.args.place c.loop-piece.left (image_octets (drop c.loop-piece.piece-index c.args.pieces.now))
    (image_none c.args.pieces.now c.loop-piece.piece-index c.loop-piece-test.false) c.loop-piece.invariant
