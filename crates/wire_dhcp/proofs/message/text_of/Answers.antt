-- The first zero ends the text.
use Rattle.std.proofs.Common.{arith}
use Rattle.wire_dhcp.proofs.Fields.{text-cut, text-whole}
use Rattle.wire_dhcp.proofs.message.text_of.Goals as goal

pub returns-then-octet-eq0-clause-text : goal.returns-then-octet-eq0-clause-text
returns-then-octet-eq0-clause-text c = text-cut c.args.field.now c.loop-i.i c.loop-i-test.true c.loop-i.invariant c.if-octet-eq0.true

pub returns-clause-text : goal.returns-clause-text
returns-clause-text c = text-whole c.args.field.now (λ k h. c.loop-i.invariant k (omega arith))
