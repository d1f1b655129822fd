use Rattle.std.proofs.Common.{drop}
use Rattle.session_text.specs.Image.{image_octets}
use Rattle.session_text.proofs.Joined.{Copied}
use Rattle.session_text.proofs.pieces.copy_image.Given as goal

abbrev pub invariant-loop-piece : goal.invariant-loop-piece
invariant-loop-piece l =
    Copied (drop l.place (image_octets l.pieces)) l.fn.room l.filled l.room (image_octets (drop l.piece-index l.pieces)) l.left
