use Rattle.tap_core.proofs.Honest.{success-whole}
use Rattle.tap_core.proofs.laws.success_has_body.Goals as goal

pub returns : goal.returns
returns c = success-whole
