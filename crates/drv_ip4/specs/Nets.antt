-- Where the station is in its networks: the default address and what it brought, routes, and station addresses.
use Rattle.std.specs.Prelude.{ℕ, ◌+◌, ◌-◌, ◌%◌, ◌^◌, Bool, ◌||◌, ◌==◌, is_none, List, [], ◌∷◌, ◌++◌, length, map, Option, Some, None, if◌then◌else◌, bit_and, bit_or}
use Rattle.std.specs.List.{list_any}
use Rattle.std.specs.Option.{option_map}
use Rattle.efi_base.specs.Addresses.{is_broadcast}
use Rattle.efi_base.specs.declared.plain.Addr.{Addr}
use Rattle.efi_base.specs.declared.plain.Ip4.{Ip4}
use Rattle.efi_book.specs.declared.children.Child.{Child}
use Rattle.efi_book.specs.Families.{Family}
use Rattle.ip_core.specs.Routing.{add_refusal, best_of, next_hop, without, limit}
use Rattle.ip_core.specs.declared.routes.Route.{Route}
use Rattle.drv_ip4.specs.declared.work.Hop.{Hop}
use Rattle.drv_ip4.specs.declared.work.Hop.TheVariants.{Everyone, To}
use Rattle.drv_ip4.specs.declared.work.IpCfg.{IpCfg}

-- the default address; the routes; those of them that the default address brought; the addresses at which the station
-- answers; and the identification of the next datagram
pub record Place : Type 0 where
  pub home : Option Addr
  pub routes : List Route
  pub brought : List Route
  pub stations : List Ip4
  pub next : ℕ

abbrev pub nowhere : Place
nowhere = record { home = None; routes = []; brought = []; stations = []; next = 0 }

abbrev pub with_routes : Place → List Route → List Route → Place
with_routes n routes brought = record { home = n.home; routes = routes; brought = brought; stations = n.stations; next = n.next }

-- identifications rise from 0, modulo 65,536
abbrev pub with_next : Place → Place
with_next n = record { home = n.home; routes = n.routes; brought = n.brought; stations = n.stations; next = (n.next + 1) % 2 ^ 16 }

abbrev pub with_stations : Place → List Ip4 → Place
with_stations n stations = record { home = n.home; routes = n.routes; brought = n.brought; stations = stations; next = n.next }

-- the address that a child uses
abbrev pub at_or : Option Addr → Option Addr → Option Addr
at_or None home = home
at_or (Some at) home = Some at

abbrev pub address_used : Option Addr → IpCfg → Option Addr
address_used home cfg = at_or cfg.at home

-- the address that a child names for itself, where it is configured
abbrev pub named_by : Option IpCfg → Option Addr
named_by None = None
named_by (Some cfg) = cfg.at

abbrev pub address_named : Child (Option IpCfg) → Option Addr
address_named child = named_by child.value

-- those of the callers' children, in the order of making
abbrev pub addresses_of : Family (Option IpCfg) → List (Option Addr)
addresses_of f = map address_named f.live

-- the limited broadcast, or the all-ones address of this address's network (RFC 922, section 7)
abbrev pub is_everyones : Addr → ℕ → Bool
is_everyones own dest = is_broadcast dest || dest == bit_or own.ip.0 (2 ^ 32 - 1 - own.mask)

-- the next hop by the best route
abbrev pub to_hop : ℕ → Hop
to_hop ip = To (record { 0 = ip })

abbrev pub hop_by : List Route → Bool → ℕ → Option Hop
hop_by routes everyone dest = if everyone then Some Everyone else option_map to_hop (option_map (next_hop dest) (best_of dest routes))

abbrev pub is_among : List Ip4 → ℕ → Bool
is_among stations ip = list_any (λ (s : Ip4). s.0 == ip) stations

abbrev pub is_station : Place → ℕ → Bool
is_station n ip = is_among n.stations ip

abbrev pub with_route : Place → Route → Place
with_route n r = with_routes n (n.routes ++ r ∷ []) n.brought

abbrev pub without_route : Place → Route → Place
without_route n r = with_routes n (without r n.routes) (without r n.brought)

-- one more that the default address brought; as there are at most 64 routes, there is place
abbrev pub noted : Route → List Route → List Route
noted r brought = if length brought == limit then brought else brought ++ r ∷ []

-- a route that the default address brings, unless it is there or there are as many as may be
abbrev pub brought_in : Place → Route → Place
brought_in n r =
    if is_none (add_refusal n.routes r)
    then with_routes n (n.routes ++ r ∷ []) (noted r n.brought)
    else n

-- the routes without these
abbrev pub all_without : List Route → List Route → List Route
all_without [] routes = routes
all_without (r ∷ rs) routes = all_without rs (without r routes)

-- the network of an address is reached directly
abbrev pub onlink : Addr → Route
onlink a = record { dest = record { 0 = bit_and a.ip.0 a.mask }; mask = a.mask; gate = record { 0 = 0 } }

-- without a default address, and without what it brought
abbrev pub homeless : Place → Place
homeless n = record { home = None; routes = all_without n.brought n.routes; brought = []; stations = n.stations; next = n.next }

abbrev pub at_home : Place → Addr → Place
at_home n a = record { home = Some a; routes = n.routes; brought = n.brought; stations = n.stations; next = n.next }

-- another default address or none: what the old one brought goes, and the new one brings the route to its network
abbrev pub settled : Place → Option Addr → Place
settled n None = homeless n
settled n (Some a) = brought_in (at_home (homeless n) a) (onlink a)
