use Rattle.ip_core.proofs.Standings.{datagrams-same}
use Rattle.ip_core.proofs.laws.gives_datagrams.Goals as goal

pub returns : goal.returns
returns c = datagrams-same
