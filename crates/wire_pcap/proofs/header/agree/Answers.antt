use Rattle.wire_pcap.proofs.Headers.{agree_right, agree_wrong}
use Rattle.wire_pcap.proofs.header.agree.Goals as goal

pub returns-clause-right : goal.returns-clause-right
returns-clause-right c = agree_right c.args.octets.now c.args.wanted.now c.min-len.result c.eq.result c.min-len.ensures c.eq.ensures

pub returns-clause-wrong : goal.returns-clause-wrong
returns-clause-wrong c = agree_wrong c.args.octets.now c.args.wanted.now c.min-len.result c.eq.result c.min-len.ensures c.eq.ensures
