use Rattle.tap_core.proofs.Honest.{body-of}
use Rattle.tap_core.proofs.laws.honest_body.Goals as goal

pub returns : goal.returns
returns c = body-of
