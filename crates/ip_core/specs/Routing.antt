-- Routes, and the one by which a packet goes: that of the longest mask, and of the first added among equals (RFC 1812,
-- section 5.2.4.3; masks are those of RFC 4632, section 3.1).
use Rattle.std.specs.Prelude.{◌≡◌, ℕ, ◌<◌, ◌≤◌, Bool, true, false, not, ◌&&◌, ◌==◌, nat_lt, IsTrue, List, ◌∷◌, ◌++◌, length, fold, remove, Option, Some, None, if◌then◌else◌, bit_and, count_ones, is_some, All}
use Rattle.std.specs.List.{position}
use Rattle.efi_base.specs.declared.refuse.Refuse.{Refuse}
use Rattle.efi_base.specs.declared.refuse.Refuse.TheVariants.{AccessDenied, BadConfig, NotFound, NotReady}
use Rattle.efi_base.specs.declared.refuse.Field.TheVariants as field
use Rattle.ip_core.specs.declared.routes.Route.{Route}
use Rattle.efi_base.specs.Addresses.{is_mask}
use Rattle.efi_base.specs.Refusals.{first_of, refuse_if}

-- the route to every network, reached directly
abbrev pub everywhere : Route
everywhere = record { dest = record { 0 = 0 }; mask = 0; gate = record { 0 = 0 } }

-- the mask is ones and then zeros, and the destination has no bits outside it
abbrev pub is_good : Route → Bool
is_good r = is_mask r.mask && bit_and r.dest.0 r.mask == r.dest.0

-- the same destination, mask and gate
abbrev pub is_same : Route → Route → Bool
is_same r s = r.dest.0 == s.dest.0 && (r.mask == s.mask && r.gate.0 == s.gate.0)

-- where the same route is in the list
abbrev pub route_place : Route → List Route → Option ℕ
route_place r routes = position (is_same r) routes

-- how many routes there may be
abbrev pub limit : ℕ
limit = 64

-- why a route isn't added
abbrev pub add_refusal : List Route → Route → Option Refuse
add_refusal routes r =
    first_of (refuse_if (is_some (route_place r routes)) AccessDenied)
    (first_of (refuse_if (not (is_good r)) (BadConfig field.Mask)) (refuse_if (length routes == limit) NotReady))

-- why a route isn't removed
abbrev pub remove_refusal : List Route → Route → Option Refuse
remove_refusal routes r = refuse_if (not (is_some (route_place r routes))) NotFound

-- the routes without this one
abbrev pub without_at : Option ℕ → List Route → List Route
without_at None routes = routes
without_at (Some i) routes = remove routes i

abbrev pub without : Route → List Route → List Route
without r routes = without_at (route_place r routes) routes

-- the address lies in the route's network
abbrev pub matches : Route → ℕ → Bool
matches r a = bit_and a r.mask == r.dest.0

-- how many ones the mask has
abbrev pub mask_length : Route → ℕ
mask_length r = count_ones r.mask

abbrev pub is_longer : Route → Option Route → Bool
is_longer r None = true
is_longer r (Some best) = nat_lt (mask_length best) (mask_length r)

-- the better of the best route so far and one that was added after it
abbrev pub better : ℕ → Option Route → Route → Option Route
better a best r = if matches r a && is_longer r best then Some r else best

-- the route by which a packet to this address goes
abbrev pub best_of : ℕ → List Route → Option Route
best_of a routes = fold (better a) None routes

-- the address to which the packet is handed: the destination itself where the route names no gate
abbrev pub next_hop : ℕ → Route → ℕ
next_hop a r = if r.gate.0 == 0 then a else r.gate.0

-- Which route that is, in the field's words: it matches; of those added before it that match none has as long a mask,
-- and of those added after it none has a longer one.
pub record IsBest (a : ℕ) (routes : List Route) (r : Route) : Type 0 where
  pub before : List Route
  pub after : List Route
  pub there : routes ≡ before ++ r ∷ after
  pub matches_it : IsTrue (matches r a)
  pub longer : All (λ s. IsTrue (matches s a) → mask_length s < mask_length r) before
  pub as_long : All (λ s. IsTrue (matches s a) → mask_length s ≤ mask_length r) after

-- the route that was found is the best one, and where none was found none matches
abbrev pub FindsBest : ℕ → List Route → Option Route → Type 0
FindsBest a routes None = All (λ s. matches s a ≡ false) routes
FindsBest a routes (Some r) = IsBest a routes r
