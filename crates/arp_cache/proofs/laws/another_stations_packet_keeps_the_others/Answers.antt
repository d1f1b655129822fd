use Rattle.arp_cache.proofs.Heard.{others_stay}
use Rattle.arp_cache.proofs.laws.another_stations_packet_keeps_the_others.Goals as goal

pub returns : goal.returns
returns c = others_stay
