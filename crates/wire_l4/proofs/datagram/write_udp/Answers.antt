-- What was written is read again.
use Rattle.std.proofs.Common.{Some, rules}
use Rattle.efi_base.specs.Writes.{Writes}
use Rattle.wire_l4.specs.Datagram.{datagram_of, datagram_text}
use Rattle.wire_l4.specs.Seen.{datagram_seen}
use Rattle.wire_l4.proofs.Datagrams.{datagram-again}
use Rattle.efi_base.proofs.Written.{front-read}
use Rattle.wire_l4.proofs.datagram.write_udp.Goals as goal

pub returns-clause-again : goal.returns-clause-again
unfolding datagram_text
returns-clause-again c =
    let d = datagram_seen c.args.v.now in
    let w : Writes (datagram_text c.args.src.0 c.args.dest.0 d) c.args.room.now c.put_parts.result c.put_parts.new.room = search rules in
    front-read (datagram_of c.args.src.0 c.args.dest.0) (datagram_text c.args.src.0 c.args.dest.0 d) c.args.room.now c.put_parts.result c.put_parts.new.room (Some d) w
    (datagram-again c.args.src.0 c.args.dest.0 d (c.header_of.ensures.fits c.parts_checksum-sum.ensures.octets))
