-- An ARP cache as a list of entries, at most one of each address and at most 256: what calls, heard packets and time do to it.
use Rattle.std.specs.Prelude.{ℕ, Bool, false, ◌==◌, not, nat_lt, List, [], ◌∷◌, ◌++◌, length, filter, map, Option, Some, None, is_some, if◌then◌else◌}
use Rattle.efi_base.specs.declared.plain.Tick.{Tick}
use Rattle.efi_base.specs.declared.plain.Mac.{Mac}
use Rattle.efi_base.specs.declared.refuse.Refuse.{Refuse}
use Rattle.efi_base.specs.declared.refuse.Refuse.TheVariants.{AccessDenied, NotReady, NotFound}
use Rattle.efi_base.specs.Refusals.{refuse_if}
use Rattle.wire_link.specs.declared.resolution.Arp.{Arp}
use Rattle.arp_cache.specs.declared.entry.Entry.{Entry}
use Rattle.arp_cache.specs.Entries.{is_live, is_other, mac_of, has_unfixed, stalest, refreshed}

-- how many entries there are at most
abbrev pub most : ℕ
most = 256

abbrev pub has : List Entry → ℕ → Bool
has es ip = is_some (mac_of es ip)

-- the cache without an address
abbrev pub without : ℕ → List Entry → List Entry
without ip es = filter (is_other ip) es

-- the entry that goes first goes
abbrev pub without_first : Option Entry → List Entry → List Entry
without_first None es = es
without_first (Some e) es = without e.ip.0 es

-- a full cache gives up the entry that goes first
abbrev pub with_room : List Entry → List Entry
with_room es = if nat_lt (length es) most then es else without_first (stalest es) es

-- an entry stands behind the others, where there is room for it
abbrev pub join : List Entry → Entry → List Entry
join es e = if nat_lt (length es) most then es ++ e ∷ [] else es

-- an entry takes the place of that of its address, else of the one that goes first where the cache is full; where all of a full
-- cache are fixed it isn't added
abbrev pub entered : List Entry → Entry → List Entry
entered es e = join (with_room (without e.ip.0 es)) e

-- why an entry isn't added by a call: one of its address is there and isn't to be replaced, or it is new and all of a full cache
-- are fixed
abbrev pub add_refusal : List Entry → ℕ → Bool → Option Refuse
add_refusal es ip over =
    if has es ip then refuse_if (not over) AccessDenied
    else (if nat_lt (length es) most then None else refuse_if (not (has_unfixed es)) NotReady)

abbrev pub delete_refusal : List Entry → ℕ → Option Refuse
delete_refusal es ip = refuse_if (not (has es ip)) NotFound

-- the entries that aren't fixed go, where there is one
abbrev pub flush_refusal : List Entry → Option Refuse
flush_refusal es = refuse_if (not (has_unfixed es)) NotFound

abbrev pub after_flush : List Entry → List Entry
after_flush es = filter (λ (e : Entry). e.fixed) es

-- at a moment the entries go whose life has ended
abbrev pub after_time : ℕ → List Entry → List Entry
after_time now es = filter (is_live now) es

-- The reception of a packet. First the sender's entry is refreshed, if it has one.
abbrev pub after_merge : List Entry → Arp → Tick → List Entry
after_merge es m now = map (refreshed m.spa m.sha now) es

abbrev pub learned : Arp → Tick → ℕ → Entry
learned m now life = record { ip = m.spa; mac = m.sha; fixed = false; refreshed = now; life = life }

-- Then, where the target is an address of the station, the sender's pair is added if it wasn't there; 0.0.0.0 isn't. The life is
-- that which this address gives.
abbrev pub after_add : List Entry → Arp → Tick → Option ℕ → List Entry
after_add es m now None = es
after_add es m now (Some life) = if m.spa.0 == 0 then es else (if has es m.spa.0 then es else entered es (learned m now life))

abbrev pub after_heard : List Entry → Arp → Tick → Option ℕ → List Entry
after_heard es m now life = after_add (after_merge es m now) m now life

-- At last a request for an address of the station is answered, to the asker.
abbrev pub reply_of : Arp → Mac → Bool → Option Arp
reply_of m mac ours =
    if ours then (if m.op == 1 then Some (record { op = 2; sha = mac; spa = m.tpa; tha = m.sha; tpa = m.spa }) else None) else None
