use Rattle.tcp_send.proofs.Named.{named}
use Rattle.tcp_send.proofs.laws.acknowledgments_name_places.Goals as goal

pub returns : goal.returns
returns c = λ s ack short. named s.iss s.una ack short
