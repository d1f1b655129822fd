use Rattle.wire_http.proofs.ResponseLaws.{one_whole}
use Rattle.wire_http.proofs.laws.whole_is_one.Goals as goal

pub returns : goal.returns
returns c = one_whole
