use Rattle.wire_pcap.proofs.Unique.{one_whole}
use Rattle.wire_pcap.proofs.laws.records_are_one.Goals as goal

pub returns : goal.returns
returns c = one_whole
