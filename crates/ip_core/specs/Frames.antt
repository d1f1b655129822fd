-- The datagrams of a capture's frames. Which frames count, and whether a packet's header must have a right checksum, is
-- the reader's matter: it is a function from a frame to the packet that counts.
use Rattle.std.specs.Prelude.{ℕ, ◌==◌, List, map, Option, Some, None, if◌then◌else◌}
use Rattle.std.specs.Option.{option_and_then}
use Rattle.efi_base.specs.declared.plain.Record.{Record}
use Rattle.wire_link.specs.Ether.{frame_of}
use Rattle.wire_ip4.specs.Packet.{Packet}
use Rattle.ip_core.specs.Pools.{Pool, Datagram}
use Rattle.ip_core.specs.Datagrams.{Event, heard, passed, datagrams_of, pools_after}

-- the packet of a frame of IPv4's type (RFC 894), by a reading of packets
abbrev pub packet_in_frame : (List ℕ → Option Packet) → List ℕ → Option Packet
packet_in_frame read frame = option_and_then (λ f. if f.proto == 0x0800 then read f.payload else None) (frame_of frame)

-- what happens at a tick with a packet or none
abbrev pub event_at : ℕ → Option Packet → Event
event_at now None = passed now
event_at now (Some p) = heard now p

-- what a record is for the pools
abbrev pub event_of : (List ℕ → Option Packet) → Record → Event
event_of counts r = event_at r.tick.0 (counts r.frame)

-- at each of the records the datagram that exists at it
abbrev pub frame_datagrams : (List ℕ → Option Packet) → List Record → List (Option Datagram)
frame_datagrams counts records = datagrams_of (map (event_of counts) records)

-- the open pools after the records
abbrev pub frame_pools : (List ℕ → Option Packet) → List Record → List (Pool (List Packet))
frame_pools counts records = pools_after (map (event_of counts) records)
