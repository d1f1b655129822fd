use Rattle.wire_http.proofs.ResponseLaws.{front_whole}
use Rattle.wire_http.proofs.laws.whole_front_is_whole.Goals as goal

pub returns : goal.returns
returns c = front_whole
