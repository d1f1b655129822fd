use Rattle.tap_core.proofs.OneThing.{shows-one}
use Rattle.tap_core.proofs.laws.shows_one_thing.Goals as goal

pub returns : goal.returns
returns c = shows-one
