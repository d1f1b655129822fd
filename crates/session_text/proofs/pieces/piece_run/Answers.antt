use Rattle.session_text.proofs.Joined.{run_there}
use Rattle.session_text.proofs.pieces.piece_run.Goals as goal

pub returns-in-Fill : goal.returns-in-Fill
returns-in-Fill c =
    run_there c.args.piece.now _ _ c.args.place c.args.room.now c.fill_run.new.room c.in-Fill.is c.fill_run.auto.room c.requires.within c.fill_run.ensures
