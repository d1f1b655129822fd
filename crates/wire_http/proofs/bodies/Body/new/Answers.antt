use Rattle.std.proofs.Common.{[]}
use Rattle.wire_http.proofs.PieceLaws.{so_far_is}
use Rattle.wire_http.proofs.bodies.Body.new.Goals as goal

pub returns-clause-placed : goal.returns-clause-placed
returns-clause-placed c = so_far_is c.args.framing []
