-- The addresses octet by octet.
use Rattle.std.proofs.Common.{rules}
use Rattle.wire_link.proofs.Addresses.{six}
use Rattle.wire_link.proofs.frame.header_of.Goals as goal

pub returns-clause-text : goal.returns-clause-text
returns-clause-text c = rw (six _ c.put_mac.ensures.six, six _ c.put_mac-2.ensures.six) (search rules)
