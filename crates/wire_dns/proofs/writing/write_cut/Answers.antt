-- A question alone always fits.
use Rattle.wire_dns.proofs.Written.{question-fits}
use Rattle.wire_dns.proofs.writing.write_cut.Goals as goal

pub returns-in-None : goal.returns-in-None
returns-in-None c = absurd (question-fits c.args.q.now c.requires.name c.in-None.ensures.none)
