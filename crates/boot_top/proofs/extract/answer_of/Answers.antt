-- What was watched is what was seen.
use Rattle.std.proofs.Common.{subst}
use Rattle.boot_top.specs.Watched.{IsWatched}
use Rattle.boot_top.proofs.extract.answer_of.Goals as goal

pub returns-in-Capture-clause-answered : goal.returns-in-Capture-clause-answered
returns-in-Capture-clause-answered c bytes watched =
    let w = subst (IsWatched c.args.task.buffer bytes) c.in-Capture.is watched in
    c.answer_seen.ensures.answered bytes w.0 w.1 w.2
