-- The header stands behind the pseudo header, and the payload is summed behind both.
use Rattle.std.proofs.Common.{refl}
use Rattle.wire_l4.proofs.Parts.{sum-of-parts}
use Rattle.wire_l4.proofs.pseudo.parts_checksum.Goals as goal

pub returns-clause-sum : goal.returns-clause-sum
returns-clause-sum c =
    rw (c.checksum.ensures, c.copy_from_slice-2.ensures.after, c.copy_from_slice.ensures.after, c.pseudo_header_of.ensures)
    (sum-of-parts c.args.src.0 c.args.dest.0 c.args.proto _ _ c.args.header.now _ c.args.payload.now refl refl)
