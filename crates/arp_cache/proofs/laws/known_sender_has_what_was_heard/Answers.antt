use Rattle.arp_cache.proofs.Heard.{sender_known}
use Rattle.arp_cache.proofs.laws.known_sender_has_what_was_heard.Goals as goal

pub returns : goal.returns
returns c = sender_known
