use Rattle.tap_core.proofs.Something.{shows-some}
use Rattle.tap_core.proofs.laws.shows_something.Goals as goal

pub returns : goal.returns
returns c = shows-some
