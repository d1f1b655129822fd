-- What is heard at the next records, with pools of octets that the records before them left open.
use Rattle.std.specs.Prelude.{ℕ, List, [], ◌∷◌, map, fold, Option}
use Rattle.efi_base.specs.declared.plain.Record.{Record}
use Rattle.wire_ip4.specs.Packet.{Packet}
use Rattle.wire_l4.specs.Segment.{Segment}
use Rattle.ip_core.specs.Pools.{Pool}
use Rattle.ip_core.specs.Bytes.{Bytes, bytes_kept}
use Rattle.ip_core.specs.Datagrams.{Event, event_datagram, after_event}
use Rattle.ip_core.specs.Frames.{event_of}
use Rattle.tap_core.specs.Frames.{any_packet, heard_packet}
use Rattle.tap_core.specs.Heard.{segment_at}
use Rattle.tap_core.specs.Openings.{Opening}

-- what a record is for the pools of what is heard
abbrev pub event_heard : Opening → Record → Event
event_heard o r = event_of (heard_packet o.station) r

-- what is heard at a record
abbrev pub heard_at : Opening → List (Pool Bytes) → Record → Option Segment
heard_at o pools r = segment_at o (event_datagram bytes_kept pools (event_heard o r))

-- what is heard at each of the records
abbrev pub heard_from : Opening → List (Pool Bytes) → List Record → List (Option Segment)
heard_from o pools [] = []
heard_from o pools (r ∷ records) = heard_at o pools r ∷ heard_from o (after_event bytes_kept pools (event_heard o r)) records

-- the pools behind the records, by the packets that count
abbrev pub pools_by : (List ℕ → Option Packet) → List (Pool Bytes) → List Record → List (Pool Bytes)
pools_by counts pools records = fold (after_event bytes_kept) pools (map (event_of counts) records)

-- by those that are heard
abbrev pub pools_from : Opening → List (Pool Bytes) → List Record → List (Pool Bytes)
pools_from o pools records = pools_by (heard_packet o.station) pools records

-- by all, whoever sent them
abbrev pub pools_sent : List Record → List (Pool Bytes)
pools_sent records = pools_by any_packet [] records
