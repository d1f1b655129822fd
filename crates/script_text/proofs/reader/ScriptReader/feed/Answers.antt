use Rattle.script_text.specs.Reading.{Reading}
use Rattle.script_text.proofs.Feeding.{fed_bad, fed_more}
use Rattle.script_text.proofs.reader.ScriptReader.feed.Goals as goal

pub returns-in-Ok-clause-ok : goal.returns-in-Ok-clause-ok
returns-in-Ok-clause-ok c =
    let old : Reading = record { said = c.self.inside.said; at = c.self.inside.at; rest = c.self.inside.kept.items; fault = c.self.inside.fault } in
    let new : Reading = record { said = c.read_piece.new.said; at = c.in-Ok.to; rest = c.read_piece.new.kept.items; fault = c.self.inside.fault } in
    rw (← c.self.view_is) (c.in_default.is, fed_more old new c.args.piece.now c.in_default.is c.in-Ok.ensures.read)

pub returns-in-Err-clause-cause : goal.returns-in-Err-clause-cause
returns-in-Err-clause-cause c =
    let old : Reading = record { said = c.self.inside.said; at = c.self.inside.at; rest = c.self.inside.kept.items; fault = c.self.inside.fault } in
    rw (← c.self.view_is) (fed_bad old c.args.piece.now c.in-Err.fault c.in-Err.ensures)
