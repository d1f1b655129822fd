use Rattle.wire_pcap.proofs.Rising.{rising}
use Rattle.wire_pcap.proofs.laws.ticks_rise.Goals as goal

pub returns : goal.returns
returns c = rising
