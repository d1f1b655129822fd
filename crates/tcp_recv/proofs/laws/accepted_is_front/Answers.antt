use Rattle.tcp_recv.proofs.Peers.{heard-front}
use Rattle.tcp_recv.proofs.laws.accepted_is_front.Goals as goal

pub returns : goal.returns
returns c = heard-front
