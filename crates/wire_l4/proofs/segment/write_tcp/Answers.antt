-- What was written is read again.
use Rattle.std.proofs.Common.{Some, rules}
use Rattle.efi_base.specs.Writes.{Writes}
use Rattle.wire_l4.specs.Seen.{segment_seen}
use Rattle.wire_l4.specs.Segment.{segment_of}
use Rattle.wire_l4.specs.Spelling.{segment_text}
use Rattle.wire_l4.proofs.Spelled.{segment-again}
use Rattle.efi_base.proofs.Written.{front-read}
use Rattle.wire_l4.proofs.segment.write_tcp.Goals as goal

pub returns-clause-again : goal.returns-clause-again
unfolding segment_text
returns-clause-again c =
    let s = segment_seen c.args.v.now in
    let w : Writes (segment_text c.args.src.0 c.args.dest.0 s) c.args.room.now c.put_parts.result c.put_parts.new.room = search rules in
    front-read (segment_of c.args.src.0 c.args.dest.0) (segment_text c.args.src.0 c.args.dest.0 s) c.args.room.now c.put_parts.result c.put_parts.new.room (Some s) w
    (segment-again c.args.src.0 c.args.dest.0 s (c.header_of-blank.ensures.fits c.parts_checksum-sum.ensures.octets c.requires))
