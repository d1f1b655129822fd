use Rattle.std.proofs.Common.{◌<◌, length, arith}
use Rattle.wire_pcap.proofs.Standing.{unfinished_late}
use Rattle.wire_pcap.proofs.reader.PcapReader.finish.Goals as goal

pub returns-then-rest-gt0-clause-refused : goal.returns-then-rest-gt0-clause-refused
returns-then-rest-gt0-clause-refused c =
    let some : 0 < length c.self.inside.octets.items =
    omega (arith, c.if-rest-gt0.true, c.len-rest.ensures, c.self.inside.octets.ok.0) in
    rw (← c.self.view_is) (λ fed given h. unfinished_late fed given _ h c.in_default-form.not-None some)
