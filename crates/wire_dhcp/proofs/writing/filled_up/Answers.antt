use Rattle.std.proofs.Common.{◌++◌, length, ap}
use Rattle.std.proofs.lemmas.List.{drop-replicate}
use Rattle.wire_dhcp.proofs.writing.filled_up.Goals as goal

pub returns : goal.returns
returns c = rw c.copy_from_slice.ensures.after (ap (λ r. c.args.file.now ++ r) (drop-replicate (length c.args.file.now) 128 0))
