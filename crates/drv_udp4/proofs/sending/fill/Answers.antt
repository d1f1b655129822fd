use Rattle.wire_l4.specs.Seen.{datagram_seen}
use Rattle.drv_udp4.proofs.Texts.{text-fills}
use Rattle.drv_udp4.proofs.sending.fill.Goals as goal

pub unwrap-requires : goal.unwrap-requires
unwrap-requires c =
    (text-fills c.args.src.0 c.args.dest.0 (datagram_seen c.args.datagram.now) c.args.room.now _ c.write_udp.result c.requires.room c.write_udp.ensures.writes).0

pub returns : goal.returns
returns c =
    (text-fills c.args.src.0 c.args.dest.0 (datagram_seen c.args.datagram.now) c.args.room.now _ c.write_udp.result c.requires.room c.write_udp.ensures.writes).1
