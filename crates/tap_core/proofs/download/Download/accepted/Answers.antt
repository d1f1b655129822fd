use Rattle.std.proofs.Common.{◌∙◌}
use Rattle.tap_core.proofs.Streams.{accepted-Follows}
use Rattle.tap_core.proofs.download.Download.accepted.Goals as goal

pub returns : goal.returns
returns c = λ most irs board f. c.accepted.ensures.count ∙ accepted-Follows most irs board c.args.self.now f
