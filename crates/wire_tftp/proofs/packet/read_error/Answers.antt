-- Something stands behind the text.
use Rattle.std.proofs.Common.{arith}
use Rattle.std.proofs.lemmas.List.{take_all, length-drop}
use Rattle.wire_tftp.proofs.Errors.{error-more}
use Rattle.wire_tftp.proofs.packet.read_error.Goals as goal

pub returns-then-behind-gt0 : goal.returns-then-behind-gt0
returns-then-behind-gt0 c =
    error-more c.args.body.now _ c.in-Some.text.now c.in-Some.behind.now (take_all _ _ (omega (arith, length-drop 2 c.args.body.now))) c.in-Some.ensures.some c.if-behind-gt0.true
