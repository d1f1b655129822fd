use Rattle.ip_hops.proofs.Asking.{asks_tick}
use Rattle.ip_hops.proofs.laws.requests_go_by_the_second.Goals as goal

pub returns : goal.returns
returns g c = asks_tick
