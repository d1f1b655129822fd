-- What came of all that was fed.
use Rattle.std.proofs.Common.{refl}
use Rattle.session_text.specs.Reading.{HasRead}
use Rattle.session_text.specs.Sessions.{session_of}
use Rattle.boot_top.specs.Texts.{IsUnbuilt}
use Rattle.boot_top.proofs.Texts.{good-at-end, cause-at-end, if-cause}
use Rattle.boot_top.proofs.document.DocumentCheckFeed.finish.Goals as goal

pub returns-in-Ok : goal.returns-in-Ok
returns-in-Ok c about fed read = (_, good-at-end HasRead session_of fed _ _ _ read c.in-Ok.ensures.whole, (refl, refl))

pub returns-in-Err : goal.returns-in-Err
returns-in-Err c about fed read =
    if-cause IsUnbuilt c.refused.result (session_of fed) _
    (cause-at-end HasRead session_of fed _ _ c.finish.result _ read c.in-Err.is c.in-Err.ensures.refused c.finish.ensures.told) c.refused.ensures
