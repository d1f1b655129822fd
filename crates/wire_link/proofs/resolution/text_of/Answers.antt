use Rattle.std.proofs.Common.{rules}
use Rattle.wire_link.proofs.Addresses.{six}
use Rattle.wire_link.proofs.resolution.text_of.Goals as goal

pub returns : goal.returns
returns c = rw (six _ c.put_mac.ensures.six, six _ c.put_mac-2.ensures.six) (search rules)
