use Rattle.wire_l4.proofs.Datagrams.{datagram-again}
use Rattle.wire_l4.proofs.laws.written_datagram_is_read_again.Goals as goal

pub returns : goal.returns
returns c = datagram-again
