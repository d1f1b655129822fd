-- What the station hears from its peer: at each record the segment whose datagram exists at it, with right checksums.
use Rattle.std.specs.Prelude.{◌&&◌, ◌==◌, Bool, List, map, Option, Some, None, if◌then◌else◌}
use Rattle.std.specs.Option.{option_and_then}
use Rattle.efi_base.specs.declared.plain.Record.{Record}
use Rattle.wire_l4.specs.Segment.{Segment, segment_of}
use Rattle.ip_core.specs.Pools.{Datagram}
use Rattle.ip_core.specs.Frames.{frame_datagrams}
use Rattle.tap_core.specs.Frames.{heard_packet}
use Rattle.tap_core.specs.Openings.{Opening}

-- a datagram of TCP from the peer to the station
abbrev pub is_for : Opening → Datagram → Bool
is_for o d = d.proto == 6 && (d.src == o.dest && d.dest == o.src)

-- a segment, if it goes from the peer's port to the station's
abbrev pub if_ports : Opening → Segment → Option Segment
if_ports o s = if s.sport == o.dport && s.dport == o.sport then Some s else None

-- the segment of a datagram
unfoldable pub segment_in : Opening → Datagram → Option Segment
segment_in o d = if is_for o d then option_and_then (if_ports o) (segment_of d.src d.dest d.payload) else None

-- the segment of the datagram that exists at a record
abbrev pub segment_at : Opening → Option Datagram → Option Segment
segment_at o datagram = option_and_then (segment_in o) datagram

-- at each record what the station hears from its peer
abbrev pub segments_heard : Opening → List Record → List (Option Segment)
segments_heard o records = map (segment_at o) (frame_datagrams (heard_packet o.station) records)
