-- Each dot is a length's octet, and there is one more in front, and a zero behind.
use Rattle.std.proofs.Common.{length, ap, ◌∙◌, ◌+◌}
use Rattle.wire_dns.proofs.Labels.{name-length, empty-length}
use Rattle.wire_dns.proofs.writing.name_size.Goals as goal

pub returns-in-empty : goal.returns-in-empty
returns-in-empty c = empty-length c.args.name.now (rw c.as_slice.ensures at c.in-empty.len_below)

pub returns-in_default : goal.returns-in_default
returns-in_default c = ap (λ t. length t + 2) c.as_slice.ensures ∙ name-length c.args.name.now (rw c.as_slice.ensures at c.in_default.len_at_least)
