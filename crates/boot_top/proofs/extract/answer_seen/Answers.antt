-- What was seen tells what a report tells.
use Rattle.std.proofs.Common.{sym, subst}
use Rattle.boot_words.specs.declared.task.Emit.{Emit}
use Rattle.boot_top.specs.Watched.{IsAnswered}
use Rattle.boot_top.proofs.extract.answer_seen.Goals as goal

pub returns-in-Image-clause-answered : goal.returns-in-Image-clause-answered
returns-in-Image-clause-answered c bytes records capture seen =
    subst (λ (e : Emit). IsAnswered (record { emit = e; buffer = c.args.task.buffer }) bytes c.image_answer.result) (sym c.in-Image.is)
    (c.image_answer.ensures.answered c.args.task.buffer bytes records capture seen)

pub returns-in-Report-clause-answered : goal.returns-in-Report-clause-answered
returns-in-Report-clause-answered c bytes records capture seen =
    rw (← c.in-Report.is) at (c.report_answer.ensures c.args.task.buffer bytes records seen.telling capture seen.shows seen.seen.tells)
