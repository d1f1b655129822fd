use Rattle.wire_dns.proofs.AskedAgain.{query-again}
use Rattle.wire_dns.proofs.laws.written_query_is_read_again.Goals as goal

pub returns : goal.returns
returns c = query-again
