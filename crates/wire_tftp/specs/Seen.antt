-- A packet as contracts see it.
use Rattle.wire_tftp.specs.declared.packet.Packet.{Packet}
use Rattle.wire_tftp.specs.declared.packet.Packet.TheVariants.{Rrq, Wrq, Data, Ack, Error, Oack}
use Rattle.wire_tftp.specs.Packets.{Message, read_request, write_request, block, acknowledgment, error, option_acknowledgment}

abbrev pub packet_seen : Packet → Message
packet_seen (Rrq ask) = read_request ask
packet_seen (Wrq ask) = write_request ask
packet_seen (Data number octets) = block number octets.now
packet_seen (Ack number) = acknowledgment number
packet_seen (Error code text) = error code text.now
packet_seen (Oack opts) = option_acknowledgment opts
