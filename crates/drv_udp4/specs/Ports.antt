-- Which port a child gets.
use Rattle.std.specs.Prelude.{ℕ, ◌+◌, ◌%◌, zero, suc, Bool, true, false, ◌==◌, ◌&&◌, not, List, Option, Some, None, if◌then◌else◌}
use Rattle.std.specs.List.{list_any}
use Rattle.efi_base.specs.declared.plain.Addr.{Addr}
use Rattle.efi_book.specs.declared.children.Child.{Child}
use Rattle.drv_udp4.specs.declared.work.UdpCfg.{UdpCfg}
use Rattle.drv_udp4.specs.Networks.{address_of}

-- both have the same address, or neither has one
abbrev pub same_address : Option Addr → Option Addr → Bool
same_address None None = true
same_address None (Some b) = false
same_address (Some a) None = false
same_address (Some a) (Some b) = a.ip.0 == b.ip.0

-- one configuration keeps another from its port
abbrev pub bars : Option Addr → UdpCfg → UdpCfg → Bool
bars home c d = (d.port == c.port && same_address (address_of home c) (address_of home d)) && not (c.share && d.share)

abbrev pub barred_by : Option Addr → UdpCfg → Option UdpCfg → Bool
barred_by home c None = false
barred_by home c (Some d) = bars home c d

abbrev pub is_barred_by : Option Addr → UdpCfg → Child (Option UdpCfg) → Bool
is_barred_by home c child = barred_by home c child.value

abbrev pub has_as : ℕ → Option UdpCfg → Bool
has_as port None = false
has_as port (Some c) = c.port == port

-- a child is configured with this port
abbrev pub has_port : ℕ → Child (Option UdpCfg) → Bool
has_port port child = has_as port child.value

-- the ports that are chosen for children, from a seed on and round: 49,152 to 65,535
abbrev pub port_at : ℕ → ℕ → ℕ
port_at seed k = 49152 + (seed + k) % 16384

-- the first of so many numbers, from this one on, whose port no child has
unfoldable pub next_free : List (Child (Option UdpCfg)) → ℕ → ℕ → ℕ → Option ℕ
next_free cs seed k zero = None
next_free cs seed k (suc n) = if list_any (has_port (port_at seed k)) cs then next_free cs seed (k + 1) n else Some k

abbrev pub with_port : UdpCfg → ℕ → UdpCfg
with_port c port = record {
  at = c.at;
  port = port;
  share = c.share;
  peer = c.peer;
  broadcast = c.broadcast;
  timeout = c.timeout;
}
