use Rattle.arp_cache.proofs.Entered.{entered_found}
use Rattle.arp_cache.proofs.laws.entered_entry_is_found.Goals as goal

pub returns : goal.returns
returns c = entered_found
