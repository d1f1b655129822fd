use Rattle.wire_http.proofs.ResponseLaws.{whole_so_far}
use Rattle.wire_http.proofs.laws.whole_is_so_far.Goals as goal

pub returns : goal.returns
returns c = whole_so_far
