use Rattle.ip_cut.proofs.Numbered.{all_counted}
use Rattle.ip_cut.proofs.laws.packets_are_counted.Goals as goal

pub returns : goal.returns
returns c = all_counted
