-- What was seen has the body.
use Rattle.std.proofs.Common.{sym}
use Rattle.boot_top.proofs.Successes.{seen-image}
use Rattle.boot_top.proofs.extract.image_answer.Goals as goal

pub returns-then-is_success-clause-answered : goal.returns-then-is_success-clause-answered
returns-then-is_success-clause-answered c most bytes records capture seen =
    seen-image most bytes records c.args.seen c.into_vec.result.items capture seen (sym c.if-is_success.ensures) c.into_vec.ensures
