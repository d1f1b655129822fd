use Rattle.ip_hops.proofs.Conserves.{weight_runs}
use Rattle.ip_hops.proofs.laws.each_message_leaves_once.Goals as goal

pub returns : goal.returns
returns g c = weight_runs
