-- Which addresses a datagram is for (RFC 1122, section 3.2.1.3).
use Rattle.std.specs.Prelude.{ℕ, ◌-◌, ◌^◌, Bool, false, ◌==◌, ◌||◌, ◌&&◌, List, map, Option, Some, None, bit_or}
use Rattle.efi_base.specs.Addresses.{is_broadcast, is_unicast}
use Rattle.efi_base.specs.declared.plain.Addr.{Addr}
use Rattle.efi_book.specs.declared.children.Child.{Child}
use Rattle.efi_book.specs.Families.{Family}
use Rattle.drv_udp4.specs.declared.work.UdpCfg.{UdpCfg}

-- the all-ones address of the network of an address
abbrev pub all_ones : Addr → ℕ
all_ones a = bit_or a.ip.0 (2 ^ 32 - 1 - a.mask)

-- a broadcast to a child of this address
abbrev pub is_everywhere : Addr → ℕ → Bool
is_everywhere a dest = is_broadcast dest || dest == all_ones a

-- one can send to it: it is unicast, or the limited broadcast
abbrev pub is_destination : ℕ → Bool
is_destination dest = is_unicast dest || is_broadcast dest

-- the child's address: its own one, or else the default one
abbrev pub or_home : Option Addr → Option Addr → Option Addr
or_home (Some a) home = Some a
or_home None home = home

abbrev pub address_of : Option Addr → UdpCfg → Option Addr
address_of home c = or_home c.at home

-- the address that a child names for itself, where it is configured
abbrev pub named_by : Option UdpCfg → Option Addr
named_by None = None
named_by (Some c) = c.at

abbrev pub address_named : Child (Option UdpCfg) → Option Addr
address_named child = named_by child.value

-- those of the callers' children, in the order of making
abbrev pub addresses_of : Family (Option UdpCfg) → List (Option Addr)
addresses_of f = map address_named f.live

-- a child of this address takes what goes to this destination; only one that is told so takes broadcasts
abbrev pub is_to : Option Addr → Bool → ℕ → Bool
is_to None broadcast dest = broadcast && is_broadcast dest
is_to (Some a) broadcast dest = a.ip.0 == dest || (broadcast && is_everywhere a dest)

-- a child has this address
abbrev pub is_at_address : Option Addr → ℕ → Bool
is_at_address None ip = false
is_at_address (Some a) ip = a.ip.0 == ip
