-- What a heard frame and a tick leave.
use Rattle.std.specs.Prelude.{ℕ, ◌-◌, ◌==◌, List, Option, Some, None, if◌then◌else◌}
use Rattle.wire_link.specs.Ether.{Frame, frame_of}
use Rattle.wire_link.specs.Arp.{ArpPacket, arp_of}
use Rattle.wire_link.specs.declared.resolution.Arp.{Arp}
use Rattle.drv_snp.specs.Devices.{hears}
use Rattle.drv_mnp.specs.Mnps as mnps
use Rattle.drv_arp.specs.Arps.{ArpState}
use Rattle.drv_arp.specs.Hears as hears_arp
use Rattle.drv_arp.specs.Ticks as ticks
use Rattle.efi_stack.specs.declared.stack.Stack.{Stack}
use Rattle.efi_stack.specs.Stacks.{with_mnp, with_arp}

-- a packet as the driver takes it
abbrev pub packet_of : ArpPacket → Arp
packet_of p = record {
  op = p.op;
  sha = record { 0 = p.sha };
  spa = record { 0 = p.spa };
  tha = record { 0 = p.tha };
  tpa = record { 0 = p.tpa };
}

abbrev pub packet_heard : ArpState → Option ArpPacket → ArpState
packet_heard d None = d
packet_heard d (Some p) = hears_arp.heard d (packet_of p)

-- frames of type 0x0806 carry ARP (RFC 826)
abbrev pub frame_heard : ArpState → Option Frame → ArpState
frame_heard d None = d
frame_heard d (Some f) = if f.proto == 2054 then packet_heard d (arp_of f.payload) else d

abbrev pub arp_heard : ArpState → List ℕ → ArpState
arp_heard d bytes = frame_heard d (frame_of bytes)

-- a frame that the device hands up is heard by MNP, and then by ARP
abbrev pub handed_up : Stack → List ℕ → Stack
handed_up s bytes = with_arp (with_mnp s (mnps.heard s.mnp bytes)) (arp_heard s.arp bytes)

abbrev pub heard : Stack → List ℕ → Stack
heard s bytes = if hears s.snp bytes then handed_up s bytes else s

-- what is due up to this moment is done
abbrev pub ticked : Stack → ℕ → Stack
ticked s now = with_arp s (ticks.ticked (now - s.arp.moment.0) s.arp)
