use Rattle.wire_tftp.proofs.Again.{packet-again}
use Rattle.wire_tftp.proofs.laws.written_packet_is_read_again.Goals as goal

pub returns : goal.returns
returns c = packet-again
