-- Which children hear a datagram, and what it does to their tokens.
use Rattle.std.specs.Prelude.{ℕ, Bool, false, ◌==◌, ◌&&◌, ◌||◌, List, [], ◌∷◌, ◌++◌, filter, Option, Some, None}
use Rattle.efi_base.specs.declared.plain.Addr.{Addr}
use Rattle.efi_base.specs.declared.units.IpPacket.{IpPacket}
use Rattle.efi_base.specs.declared.tokens.Ticket.{Ticket}
use Rattle.efi_base.specs.declared.tokens.End.TheVariants.{Success}
use Rattle.efi_book.specs.declared.children.Child.{Child}
use Rattle.efi_book.specs.Families.{Family}
use Rattle.efi_book.specs.Books.{Tokens, completed_with, oldest_kind_of}
use Rattle.efi_book.specs.Cores.{id_of}
use Rattle.drv_ip4.specs.declared.work.IpCfg.{IpCfg}
use Rattle.drv_ip4.specs.declared.work.IpWork.{IpWork}
use Rattle.drv_ip4.specs.declared.work.IpWork.TheVariants.{Receive}
use Rattle.drv_ip4.specs.Works.{kind_of}
use Rattle.drv_ip4.specs.Nets.{address_used, is_everyones}

-- the children of callers and the stack's own, each in the order of making
abbrev pub everyone : Family (Option IpCfg) → List (Child (Option IpCfg))
everyone f = f.live ++ f.own

-- the destination is the child's address or a broadcast in its network; without an address it hears nothing
abbrev pub is_to : Option Addr → ℕ → Bool
is_to None dest = false
is_to (Some own) dest = dest == own.ip.0 || is_everyones own dest

-- the datagram passes the child's test, where this is the default address
abbrev pub passes : Option Addr → IpPacket → Option IpCfg → Bool
passes home d None = false
passes home d (Some cfg) = (cfg.any || cfg.proto == d.proto) && is_to (address_used home cfg) d.dest.0

abbrev pub is_for : Option Addr → IpPacket → Child (Option IpCfg) → Bool
is_for home d child = passes home d child.value

-- for whom the datagram is
abbrev pub hearers : Option Addr → IpPacket → Family (Option IpCfg) → List (Child (Option IpCfg))
hearers home d family = filter (is_for home d) (everyone family)

abbrev pub filled : IpPacket → Option Ticket → Tokens IpWork → Tokens IpWork
filled d None ts = ts
filled d (Some ticket) ts = completed_with ts ticket Success (Receive (Some d))

-- the child's oldest receive token, if it has one, ends with the datagram
abbrev pub given : IpPacket → Child (Option IpCfg) → Tokens IpWork → Tokens IpWork
given d child ts = filled d (oldest_kind_of kind_of ts (id_of child.serial) 2) ts

-- each of these children gets the datagram
abbrev pub all_given : IpPacket → List (Child (Option IpCfg)) → Tokens IpWork → Tokens IpWork
all_given d [] ts = ts
all_given d (c ∷ cs) ts = all_given d cs (given d c ts)
