-- The first zero stands behind the last octet exactly where there is none.
use Rattle.std.proofs.Common.{arith}
use Rattle.wire_tftp.proofs.Splitting.{text-ends}
use Rattle.wire_tftp.proofs.texts.is_text.Goals as goal

pub returns : goal.returns
returns c = text-ends c.args.octets.now c.zero_at.result c.zero_at.ensures.within c.zero_at.ensures.before c.zero_at.ensures.at
