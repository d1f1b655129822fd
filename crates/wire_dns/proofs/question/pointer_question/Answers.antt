-- The name of an address can be written.
use Rattle.wire_dns.proofs.Reverse.{pointer-named}
use Rattle.wire_dns.proofs.question.pointer_question.Goals as goal

pub returns-clause-name : goal.returns-clause-name
returns-clause-name c = rw c.pointer_name.ensures.is (pointer-named c.args.ip.0 c.pointer_name.ensures.fits)
