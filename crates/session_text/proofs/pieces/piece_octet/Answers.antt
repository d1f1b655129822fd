use Rattle.std.proofs.Common.{◌∙◌}
use Rattle.session_text.proofs.Joined.{fill_there}
use Rattle.session_text.proofs.pieces.piece_octet.Goals as goal

pub returns-in-Fill : goal.returns-in-Fill
returns-in-Fill c = c.fill_octet.ensures ∙ fill_there c.args.piece.now _ _ c.args.place c.in-Fill.is c.requires.within
