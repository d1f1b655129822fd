use Rattle.tap_core.proofs.Honest.{shown-front}
use Rattle.tap_core.proofs.laws.honest_front.Goals as goal

pub returns : goal.returns
returns c = shown-front
