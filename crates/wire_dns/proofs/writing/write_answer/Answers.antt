-- An answer of at most 512 octets is whole.
use Rattle.std.proofs.Common.{sym, ◌∙◌}
use Rattle.wire_dns.proofs.Written.{answer-made, answer-cut, same-writes}
use Rattle.wire_dns.proofs.writing.write_answer.Goals as goal

pub returns-in-Some : goal.returns-in-Some
returns-in-Some c = record { writes = same-writes _ _ _ _ _ (answer-made c.args.q.now c.args.tc c.args.code c.args.rows.now c.answer_flags.result c.header_of-header.result c.as_slice.result.now c.answer_flags.ensures c.header_of-header.ensures (c.as_slice.ensures.value ∙ c.in-Some.ensures.some) c.as_slice.ensures.fits) c.put_parts.ensures }

pub returns-in-None : goal.returns-in-None
returns-in-None c = record { writes = same-writes _ _ _ _ _ (sym (answer-cut c.args.q.now c.args.tc c.args.code c.args.rows.now c.in-None.ensures.none)) c.write_cut.ensures }
