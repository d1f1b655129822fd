use Rattle.std.proofs.Common.{◌≡◌, ◌<◌, ◌+◌, ◌-◌, ◌++◌, ℕ, List, length, min, take, drop, subst, sym, ap, ◌∙◌, arith}
use Rattle.session_text.specs.Image.{image_octets, piece_length, piece_octets}
use Rattle.session_text.proofs.Joined.{Copied, copied_all, copied_more, copied_on, copied_skip, copied_start, image_more, image_none, piece_bound, piece_size}
use Rattle.session_text.proofs.pieces.copy_image.Goals as goal

pub loop-piece-init : goal.loop-piece-init
loop-piece-init c = copied_start (image_octets c.args.pieces.now) c.args.room.now c.args.place

pub loop-piece-preserved-then-left-length : goal.loop-piece-preserved-then-left-length
loop-piece-preserved-then-left-length c =
    let wanted = drop c.args.place (image_octets c.args.pieces.now) in
    let octets = piece_octets c.piece-item.result in
    let rest = image_octets (drop (c.loop-piece.piece-index + 1) c.args.pieces.now) in
    let more = image_more c.args.pieces.now c.loop-piece.piece-index c.piece-item.result c.loop-piece-test.true c.piece-item.is in
    let P : List ℕ → Type 0 = λ r. Copied wanted c.args.room.now c.loop-piece.filled c.loop-piece.room r c.loop-piece.left in
    let Q : ℕ → Type 0 = λ k. Copied wanted c.args.room.now c.loop-piece.filled c.loop-piece.room rest (c.loop-piece.left - k) in
    let size : length octets ≡ c.piece_length-length.result = piece_size c.piece-item.result ∙ sym c.piece_length-length.ensures in
    subst Q size (
    copied_skip wanted c.args.room.now c.loop-piece.filled c.loop-piece.room octets rest c.loop-piece.left (subst P more c.loop-piece.invariant)
    (omega (arith, size, c.if-left-length.true))
    )

pub copy_behind-filled-requires-clause-small : goal.copy_behind-filled-requires-clause-small
copy_behind-filled-requires-clause-small c =
    let bound = piece_bound c.args.pieces.now c.loop-piece.piece-index c.piece-item.result c.loop-piece-test.true c.piece-item.is in
    omega (arith, bound, c.requires)

pub returns-then-filled-room : goal.returns-then-filled-room
returns-then-filled-room c =
    let wanted = drop c.args.place (image_octets c.args.pieces.now) in
    let octets = piece_octets c.piece-item.result in
    let rest = image_octets (drop (c.loop-piece.piece-index + 1) c.args.pieces.now) in
    let more = image_more c.args.pieces.now c.loop-piece.piece-index c.piece-item.result c.loop-piece-test.true c.piece-item.is in
    let P : List ℕ → Type 0 = λ r. Copied wanted c.args.room.now c.loop-piece.filled c.loop-piece.room r c.loop-piece.left in
    let size = piece_size c.piece-item.result in
    let count : c.copy_behind-filled.result ≡ min (length c.loop-piece.room - c.loop-piece.filled) (length octets - c.loop-piece.left) =
    c.copy_behind-filled.ensures.count ∙ ap (λ (k : ℕ). min (length c.loop-piece.room - c.loop-piece.filled) (k - c.loop-piece.left)) (sym size) in
    let h : c.loop-piece.left < length octets = omega (arith, size, c.piece_length-length.ensures, c.if-left-length.false) in
    let made = copied_more wanted c.args.room.now c.loop-piece.filled c.copy_behind-filled.result c.loop-piece.room c.copy_behind-filled.new.room octets rest c.loop-piece.left (subst P more c.loop-piece.invariant) h count c.copy_behind-filled.ensures.octets in
    record {
      count = omega (arith, made.0, made.1, made.3, c.if-filled-room.true, c.copy_behind-filled.auto.room);
      octets = made.2;
    }

pub loop-piece-preserved : goal.loop-piece-preserved
loop-piece-preserved c =
    let wanted = drop c.args.place (image_octets c.args.pieces.now) in
    let octets = piece_octets c.piece-item.result in
    let rest = image_octets (drop (c.loop-piece.piece-index + 1) c.args.pieces.now) in
    let more = image_more c.args.pieces.now c.loop-piece.piece-index c.piece-item.result c.loop-piece-test.true c.piece-item.is in
    let P : List ℕ → Type 0 = λ r. Copied wanted c.args.room.now c.loop-piece.filled c.loop-piece.room r c.loop-piece.left in
    let size = piece_size c.piece-item.result in
    let count : c.copy_behind-filled.result ≡ min (length c.loop-piece.room - c.loop-piece.filled) (length octets - c.loop-piece.left) =
    c.copy_behind-filled.ensures.count ∙ ap (λ (k : ℕ). min (length c.loop-piece.room - c.loop-piece.filled) (k - c.loop-piece.left)) (sym size) in
    let h : c.loop-piece.left < length octets = omega (arith, size, c.piece_length-length.ensures, c.if-left-length.false) in
    copied_on wanted c.args.room.now c.loop-piece.filled c.copy_behind-filled.result c.loop-piece.room c.copy_behind-filled.new.room octets rest c.loop-piece.left (subst P more c.loop-piece.invariant) h count c.copy_behind-filled.ensures.octets c.if-filled-room.false

pub returns-clause-count : goal.returns-clause-count
returns-clause-count c =
    copied_all (drop c.args.place (image_octets c.args.pieces.now)) c.args.room.now c.loop-piece.filled c.loop-piece.room (image_octets (drop c.loop-piece.piece-index c.args.pieces.now)) c.loop-piece.left
    c.loop-piece.invariant (image_none c.args.pieces.now c.loop-piece.piece-index c.loop-piece-test.false)
