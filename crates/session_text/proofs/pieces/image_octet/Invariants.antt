use Rattle.std.proofs.Common.{drop}
use Rattle.session_text.specs.Image.{image_octets}
use Rattle.session_text.proofs.Joined.{At}
use Rattle.session_text.proofs.pieces.image_octet.Given as goal

abbrev pub invariant-loop-piece : goal.invariant-loop-piece
invariant-loop-piece l = At (image_octets l.pieces) l.place (image_octets (drop l.piece-index l.pieces)) l.left
