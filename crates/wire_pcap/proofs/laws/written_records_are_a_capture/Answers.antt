use Rattle.wire_pcap.proofs.Writing.{written_capture}
use Rattle.wire_pcap.proofs.laws.written_records_are_a_capture.Goals as goal

pub returns : goal.returns
returns c = written_capture
