use Rattle.wire_pcap.proofs.Stopping.{over_header}
use Rattle.wire_pcap.proofs.stage.read_on.Goals as goal

pub returns : goal.returns
returns c =
    over_header c.in-Some-form_of.form c.args.bytes.now c.args.from c.args.ready.now.items c.read_from-2.new.ready.items c.read_from-2.result
    c.in_default.is c.in-Some-form_of.ensures.some c.if-bytes-lt-HEADER_LEN.false c.read_from-2.ensures
