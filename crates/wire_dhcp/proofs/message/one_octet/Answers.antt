-- A value of one octet fills a room of one.
use Rattle.std.proofs.Common.{sym, ◌∙◌}
use Rattle.wire_dhcp.proofs.Fields.{octet-read, octet-other, octet-none}
use Rattle.wire_dhcp.proofs.message.one_octet.Goals as goal

pub returns-in_default : goal.returns-in_default
returns-in_default c value s e = octet-none value (sym c.in_default.is ∙ s)

pub returns-then-size-ne1 : goal.returns-then-size-ne1
returns-then-size-ne1 c value s e = octet-other value c.in-Some.size (sym c.in-Some.is ∙ s) c.if-size-ne1.true

pub returns : goal.returns
returns c value s e = octet-read value c.in-Some.size c.args.octet (sym c.in-Some.is ∙ s) c.if-size-ne1.false e
