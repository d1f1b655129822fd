use Rattle.wire_http.proofs.ResponseLaws.{one_so_far}
use Rattle.wire_http.proofs.laws.body_so_far_is_one.Goals as goal

pub returns : goal.returns
returns c = one_so_far
