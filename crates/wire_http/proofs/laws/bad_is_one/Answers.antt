use Rattle.wire_http.proofs.BadLaws.{bad-one}
use Rattle.wire_http.proofs.laws.bad_is_one.Goals as goal

pub returns : goal.returns
returns c = bad-one
