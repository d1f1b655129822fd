use Rattle.std.proofs.Common.{refl}
use Rattle.wire_pcap.proofs.Standing.{has_read_none}
use Rattle.wire_pcap.proofs.reader.PcapReader.new.Goals as goal

pub returns-clause-reading : goal.returns-clause-reading
returns-clause-reading c = has_read_none _ refl (rw c.new-2.ensures refl) c.new.ensures.items c.new-3.ensures.items
