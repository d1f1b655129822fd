-- Entries of an ARP cache (RFC 826): an IPv4 address, its Ethernet address, and for how long it counts.
use Rattle.std.specs.Prelude.{ℕ, Bool, true, false, ◌==◌, ◌-◌, not, nat_lt, List, [], ◌∷◌, find, Option, Some, None, option_map, if◌then◌else◌}
use Rattle.efi_base.specs.declared.plain.Tick.{Tick}
use Rattle.efi_base.specs.declared.plain.Ip4.{Ip4}
use Rattle.efi_base.specs.declared.plain.Mac.{Mac}
use Rattle.arp_cache.specs.declared.entry.Entry.{Entry}
use Rattle.arp_cache.specs.declared.entry.Keep.{Keep}
use Rattle.arp_cache.specs.declared.entry.Keep.TheVariants.{Others, Fixed, Live}

-- an entry counts while it is fixed, where its life is without end, and for the ticks of its life after it was last refreshed
abbrev pub is_live : ℕ → Entry → Bool
is_live now e = if e.fixed then true else (if e.life == 0 then true else nat_lt (now - e.refreshed.0) e.life)

abbrev pub is_of : ℕ → Entry → Bool
is_of ip e = e.ip.0 == ip

abbrev pub is_other : ℕ → Entry → Bool
is_other ip e = not (e.ip.0 == ip)

-- which entries stay
abbrev pub keeps : Keep → Entry → Bool
keeps (Others ip) e = is_other ip.0 e
keeps Fixed e = e.fixed
keeps (Live now) e = is_live now.0 e

-- the Ethernet address of an address
abbrev pub mac_of : List Entry → ℕ → Option Mac
mac_of es ip = option_map (λ (e : Entry). e.mac) (find (is_of ip) es)

-- whether an entry isn't fixed
abbrev pub has_unfixed : List Entry → Bool
has_unfixed [] = false
has_unfixed (e ∷ es) = if e.fixed then has_unfixed es else true

-- where room is wanted, the entry goes that was refreshed longest ago, of one tick that of the lower address
abbrev pub goes_before : Entry → Entry → Bool
goes_before a b = if a.refreshed.0 == b.refreshed.0 then nat_lt a.ip.0 b.ip.0 else nat_lt a.refreshed.0 b.refreshed.0

abbrev pub staler : Option Entry → Option Entry → Option Entry
staler None b = b
staler (Some a) None = Some a
staler (Some a) (Some b) = if goes_before b a then Some b else Some a

-- an entry that is fixed doesn't go
abbrev pub candidate : Entry → Option Entry
candidate e = if e.fixed then None else Some e

-- the entry that goes first
abbrev pub stalest : List Entry → Option Entry
stalest [] = None
stalest (e ∷ es) = staler (candidate e) (stalest es)

-- an entry after an address was heard with an Ethernet address
abbrev pub refreshed : Ip4 → Mac → Tick → Entry → Entry
refreshed ip mac now e =
    if e.ip.0 == ip.0 then record { ip = e.ip; mac = mac; fixed = e.fixed; refreshed = now; life = e.life } else e
