use Rattle.ip_core.proofs.Standings.{stand-event}
use Rattle.ip_core.proofs.laws.bytes_stand_for_fragments.Goals as goal

pub returns : goal.returns
returns c = stand-event
