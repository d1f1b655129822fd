use Rattle.wire_pcap.proofs.Staying.{place_stays}
use Rattle.wire_pcap.proofs.laws.bad_places_stay.Goals as goal

pub returns : goal.returns
returns c = place_stays
