use Rattle.tap_core.proofs.Honest.{succeeds-exactly}
use Rattle.tap_core.proofs.laws.succeeds_exactly.Goals as goal

pub returns : goal.returns
returns c = succeeds-exactly
