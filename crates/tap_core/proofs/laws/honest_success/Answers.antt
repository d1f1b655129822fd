use Rattle.tap_core.proofs.Honest.{shown-whole}
use Rattle.tap_core.proofs.laws.honest_success.Goals as goal

pub returns : goal.returns
returns c = shown-whole
