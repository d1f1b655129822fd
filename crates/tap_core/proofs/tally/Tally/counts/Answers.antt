-- The records that the station didn't send are the others.
use Rattle.std.proofs.Common.{refl}
use Rattle.tap_core.proofs.Counts.{counted-tally}
use Rattle.tap_core.proofs.tally.Tally.counts.Goals as goal

pub returns : goal.returns
returns c = λ records o t e. counted-tally records o c.args.station.0 c.args.self.now _ t e c.sent_by-sent.ensures c.saturating_sub.ensures refl
