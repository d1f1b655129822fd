-- The record is one more, and one more of its sender.
use Rattle.std.proofs.Common.{refl}
use Rattle.tap_core.proofs.Counts.{tallied-next}
use Rattle.tap_core.proofs.tally.Tally.count.Goals as goal

pub returns : goal.returns
returns c = λ records t. tallied-next records c.args.«record».now c.args.self.now _ t c.in_ok-self.ensures refl c.in_ok-count_sender.ensures
