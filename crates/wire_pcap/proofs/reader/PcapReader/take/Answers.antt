use Rattle.std.proofs.Common.{refl}
use Rattle.wire_pcap.proofs.Staying.{gives_left}
use Rattle.wire_pcap.proofs.reader.PcapReader.take.Goals as goal

pub returns-clause-left : goal.returns-clause-left
returns-clause-left c = rw (← c.self.view_is) (λ fed given e h.
    gives_left fed given _ _ e c.in_ok-record.record c.in_ok-record.ensures.items refl refl h)
