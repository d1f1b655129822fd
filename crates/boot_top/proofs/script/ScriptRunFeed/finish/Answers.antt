-- What came of all that was fed.
use Rattle.script_text.specs.Reading.{HasRead}
use Rattle.script_text.specs.Scripts.{script_of}
use Rattle.boot_top.specs.Scripts.{SaysTrace}
use Rattle.boot_top.proofs.Texts.{good-at-end, cause-at-end, if-ok, if-cause}
use Rattle.boot_top.proofs.script.ScriptRunFeed.finish.Goals as goal

pub returns-in-Ok : goal.returns-in-Ok
returns-in-Ok c about fed read =
    if-ok SaysTrace c.told_of.result (script_of fed) _ (good-at-end HasRead script_of fed _ _ _ read c.in-Ok.ensures.whole) c.told_of.ensures

pub returns-in-Err : goal.returns-in-Err
returns-in-Err c about fed read =
    if-cause SaysTrace c.refused.result (script_of fed) _
    (cause-at-end HasRead script_of fed _ _ c.finish.result _ read c.in-Err.is c.in-Err.ensures.refused c.finish.ensures.told) c.refused.ensures
