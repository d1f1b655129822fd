use Rattle.tcp_recv.proofs.Peers.{place-true}
use Rattle.tcp_recv.proofs.laws.places_are_true.Goals as goal

pub returns : goal.returns
returns c = place-true
