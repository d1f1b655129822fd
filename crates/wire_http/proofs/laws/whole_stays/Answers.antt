use Rattle.wire_http.proofs.ResponseLaws.{stays}
use Rattle.wire_http.proofs.laws.whole_stays.Goals as goal

pub returns : goal.returns
returns c = stays
