use Rattle.arp_cache.proofs.First.{unfixed}
use Rattle.arp_cache.proofs.laws.fixed_entries_stay.Goals as goal

pub returns : goal.returns
returns c = unfixed
