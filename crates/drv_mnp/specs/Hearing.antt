-- Which children hear a frame, and what it does to their tokens.
use Rattle.std.specs.Prelude.{ℕ, Bool, false, ◌==◌, ◌&&◌, ◌||◌, List, [], ◌∷◌, ◌++◌, filter, Option, Some, None}
use Rattle.std.specs.List.{list_any}
use Rattle.efi_base.specs.declared.tokens.Ticket.{Ticket}
use Rattle.efi_base.specs.declared.tokens.End.TheVariants.{Success}
use Rattle.efi_link.specs.Addresses.{is_everyone, is_multicast, is_same}
use Rattle.wire_link.specs.Ether.{Frame}
use Rattle.efi_book.specs.declared.children.Child.{Child}
use Rattle.efi_book.specs.Families.{Family}
use Rattle.efi_book.specs.Books.{Tokens, completed_with, oldest_kind_of}
use Rattle.efi_book.specs.Cores.{id_of}
use Rattle.drv_mnp.specs.declared.work.MnpCfg.{MnpCfg}
use Rattle.drv_mnp.specs.declared.work.MnpWork.{MnpWork}
use Rattle.drv_mnp.specs.declared.work.MnpWork.TheVariants.{Receive}
use Rattle.drv_mnp.specs.Works.{kind_of}

-- the children of callers and the stack's own, each in the order of making
abbrev pub everyone : Family (Option MnpCfg) → List (Child (Option MnpCfg))
everyone f = f.live ++ f.own

-- the destination is one that the child takes, at the station of this address
abbrev pub takes : List ℕ → MnpCfg → List ℕ → Bool
takes mac cfg dest =
    (cfg.unicast && is_same mac dest)
    || (cfg.multicast && is_multicast dest)
    || (cfg.broadcast && is_everyone dest)
    || cfg.promiscuous

-- the frame's type and destination pass the child's test; a child that isn't configured has none
abbrev pub passes : List ℕ → Frame → Option MnpCfg → Bool
passes mac f None = false
passes mac f (Some cfg) = ((cfg.proto == 0) || (cfg.proto == f.proto)) && takes mac cfg f.dest

abbrev pub is_for : List ℕ → Frame → Child (Option MnpCfg) → Bool
is_for mac f child = passes mac f child.value

-- for whom the frame is
abbrev pub hearers : List ℕ → Frame → Family (Option MnpCfg) → List (Child (Option MnpCfg))
hearers mac f family = filter (is_for mac f) (everyone family)

-- it is for some child
abbrev pub any_hears : List ℕ → Frame → Family (Option MnpCfg) → Bool
any_hears mac f family = list_any (is_for mac f) (everyone family)

abbrev pub filled : List ℕ → Option Ticket → Tokens MnpWork → Tokens MnpWork
filled octets None ts = ts
filled octets (Some ticket) ts = completed_with ts ticket Success (Receive (Some octets))

-- the child's oldest receive token, if it has one, ends with the frame
abbrev pub given : List ℕ → Child (Option MnpCfg) → Tokens MnpWork → Tokens MnpWork
given octets child ts = filled octets (oldest_kind_of kind_of ts (id_of child.serial) 2) ts

-- each of these children gets the frame
abbrev pub all_given : List ℕ → List (Child (Option MnpCfg)) → Tokens MnpWork → Tokens MnpWork
all_given octets [] ts = ts
all_given octets (c ∷ cs) ts = all_given octets cs (given octets c ts)
