-- What was written is read again.
use Rattle.wire_tftp.specs.Seen.{packet_seen}
use Rattle.wire_tftp.proofs.Again.{written-again}
use Rattle.wire_tftp.proofs.packet.write_packet.Goals as goal

pub returns-clause-again : goal.returns-clause-again
returns-clause-again c =
    written-again (packet_seen c.args.packet.now) c.args.room.now c.put_packet.result c.put_packet.new.room c.requires c.put_packet.ensures.fits c.put_packet.ensures.writes
