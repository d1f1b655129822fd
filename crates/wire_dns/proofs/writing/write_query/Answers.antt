-- The header and the question, which always fits.
use Rattle.std.proofs.Common.{◌∙◌}
use Rattle.wire_dns.proofs.Written.{question-fits, query-whole, same-writes}
use Rattle.wire_dns.proofs.writing.write_query.Goals as goal

pub returns-in-None : goal.returns-in-None
returns-in-None c = absurd (question-fits c.args.q.now c.requires c.in-None.ensures.none)

pub returns-in-Some : goal.returns-in-Some
returns-in-Some c = record { writes = same-writes _ _ _ _ _ (query-whole c.args.q.now c.header_of-header.result c.as_slice.result.now (rw c.flag.ensures at c.header_of-header.ensures) (c.as_slice.ensures.value ∙ c.in-Some.ensures.some)) c.put_parts.ensures }
