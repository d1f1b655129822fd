use Rattle.tcp_send.specs.Inside.{seen}
use Rattle.tcp_send.proofs.Senders.{good-finished}
use Rattle.tcp_send.proofs.sender.Send.finish.Goals as goal

pub invariant_of-self : goal.invariant_of-self
invariant_of-self c = record { capacity = c.self.invariant.capacity; sender = good-finished (seen c.self.inside) c.self.invariant.sender }
