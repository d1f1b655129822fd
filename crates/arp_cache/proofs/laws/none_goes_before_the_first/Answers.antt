use Rattle.arp_cache.proofs.First.{none_before}
use Rattle.arp_cache.proofs.laws.none_goes_before_the_first.Goals as goal

pub returns : goal.returns
returns c = none_before
