use Rattle.wire_http.proofs.ResponseLaws.{whole_not_bad}
use Rattle.wire_http.proofs.laws.whole_is_not_bad.Goals as goal

pub returns : goal.returns
returns c = whole_not_bad
