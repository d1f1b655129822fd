-- What was fed, with a piece more.
use Rattle.script_text.specs.Reading.{HasRead}
use Rattle.script_text.specs.Scripts.{script_of}
use Rattle.boot_top.proofs.Texts.{fed-good, fed-bad}
use Rattle.boot_top.proofs.script.ScriptRunFeed.feed.Goals as goal

pub returns-in-Ok : goal.returns-in-Ok
returns-in-Ok c about fed read = fed-good HasRead script_of fed c.args.piece.now _ _ _ _ read c.in-Ok.ensures.ok

pub returns-in-Err-BadAt : goal.returns-in-Err-BadAt
returns-in-Err-BadAt c about fed read =
    fed-bad HasRead script_of fed c.args.piece.now _ _ _ _ c.feed.result _ _ _ read c.in-Err-BadAt.field-0-is c.in-Err-BadAt.is c.in-Err-BadAt.ensures.cause
    c.in-Err-BadAt.ensures.fault c.feed.ensures.told
