-- A reader by its fields.
use Rattle.std.specs.Prelude.{◌<◌, length}
use Rattle.wire_pcap.specs.Reading.{Reading}
use Rattle.wire_pcap.specs.declared.reader.PcapReader.TheInside.{Inside}

abbrev pub reading_of : Inside → Reading
reading_of a = record { stage = a.stage; rest = a.octets.items; ready = a.ready.items; fault = a.fault }

-- it keeps less than a record can take
pub record IsSound (a : Inside) : Type 0 where
  pub few : length a.octets.items < 262160
