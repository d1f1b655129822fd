use Rattle.wire_pcap.proofs.Writing.{header_is}
use Rattle.wire_pcap.proofs.writer.write_header.Goals as goal

pub returns-clause-header : goal.returns-clause-header
returns-clause-header c = header_is
