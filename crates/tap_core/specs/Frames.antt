-- Which packets of a capture's frames count (RFC 894), by who sent the frame.
use Rattle.std.specs.Prelude.{ℕ, Bool, false, List, Option, None, if◌then◌else◌}
use Rattle.std.specs.Option.{option_map_or}
use Rattle.std.specs.Str.{bytes_eq}
use Rattle.wire_link.specs.Ether.{frame_of}
use Rattle.wire_ip4.specs.Packet.{Packet, packet_of, unverified_packet_of, is_fragment}
use Rattle.ip_core.specs.Frames.{packet_in_frame}

-- the packet of a frame, whoever sent it. Its sender's network card fills the header's checksum in, so that isn't looked at.
unfoldable pub any_packet : List ℕ → Option Packet
any_packet frame = packet_in_frame unverified_packet_of frame

-- the packet of a frame, whoever sent it, with a right checksum of its header
abbrev pub verified_packet : List ℕ → Option Packet
verified_packet frame = packet_in_frame packet_of frame

-- a frame from this station; one too short for an Ethernet header is from none
abbrev pub is_sent : List ℕ → List ℕ → Bool
is_sent station frame = option_map_or (λ f. bytes_eq f.src station) (frame_of frame) false

-- the packet of a frame that the station heard, with a right checksum of its header: what it sent itself isn't heard
unfoldable pub heard_packet : List ℕ → List ℕ → Option Packet
heard_packet station frame = if is_sent station frame then None else packet_in_frame packet_of frame

-- the frame holds a fragment, whose header has a right checksum: each station may hear it that didn't send it
abbrev pub holds_fragment : List ℕ → Bool
holds_fragment frame = option_map_or is_fragment (packet_in_frame packet_of frame) false
