use Rattle.std.proofs.Common.{◌≡◌, ◌+◌, length, drop}
use Rattle.session_text.specs.Image.{image_octets}
use Rattle.session_text.proofs.pieces.image_length.Given as goal

abbrev pub invariant-loop-piece : goal.invariant-loop-piece
invariant-loop-piece l = l.length + length (image_octets (drop l.piece-index l.pieces)) ≡ length (image_octets l.pieces)
