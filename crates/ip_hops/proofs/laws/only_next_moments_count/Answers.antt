use Rattle.ip_hops.proofs.Timed.{timed}
use Rattle.ip_hops.proofs.laws.only_next_moments_count.Goals as goal

pub returns : goal.returns
returns g c = timed
