-- The values of the crate as contracts see them.
use Rattle.std.specs.Prelude.{ℕ, List, [], ◌∷◌, slice_index}
use Rattle.wire_link.specs.declared.frame.Ether.{Ether}
use Rattle.wire_link.specs.declared.resolution.Arp.{Arp}
use Rattle.wire_link.specs.Arp.{ArpPacket}
use Rattle.wire_link.specs.Ether.{Frame}

-- a frame without where it lies in memory
abbrev pub frame_seen : Ether → Frame
frame_seen e = record { dest = e.dest.0; src = e.src.0; proto = e.proto; payload = e.payload.now }

-- an ARP packet, whose addresses are plain
abbrev pub arp_seen : Arp → ArpPacket
arp_seen a = record { op = a.op; sha = a.sha.0; spa = a.spa.0; tha = a.tha.0; tpa = a.tpa.0 }

-- the octets of an Ethernet address, one by one
abbrev pub mac_cells : List ℕ → List ℕ
mac_cells mac =
    slice_index mac 0 ∷ slice_index mac 1 ∷ slice_index mac 2 ∷ slice_index mac 3 ∷ slice_index mac 4 ∷ slice_index mac 5 ∷ []
