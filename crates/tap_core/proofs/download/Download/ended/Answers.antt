use Rattle.std.proofs.Common.{◌∙◌}
use Rattle.tap_core.proofs.Streams.{over-Follows}
use Rattle.tap_core.proofs.download.Download.ended.Goals as goal

pub returns : goal.returns
returns c = λ most irs board f. c.ended.ensures ∙ over-Follows most irs board c.args.self.now f
