-- Rounds of ARP requests for a next hop (RFC 826; RFC 1122, section 2.3.2.2): when a request goes again, and when a round ends.
use Rattle.std.specs.Prelude.{ℕ, ◌+◌, Bool, ◌==◌, ◌&&◌, ◌||◌, not, nat_lt, min, List, [], ◌∷◌, Option, Some, None, if◌then◌else◌}
use Rattle.std.specs.List.{list_any}
use Rattle.efi_base.specs.declared.plain.Ip4.{Ip4}
use Rattle.ip_hops.specs.declared.round.Round.{Round}
use Rattle.ip_hops.specs.declared.round.Ask.{Ask}

-- the round is for this next hop
abbrev pub is_round_of : Ip4 → Round → Bool
is_round_of hop r = r.hop.0 == hop.0

abbrev pub is_round_of_other : Ip4 → Round → Bool
is_round_of_other hop r = not (is_round_of hop r)

-- its request goes again a second after the first, and two seconds after it
abbrev pub asks_again : ℕ → Round → Bool
asks_again m r = m == r.asked.0 + 1_000 || m == r.asked.0 + 2_000

-- it ends three seconds after the first request
abbrev pub ends : ℕ → Round → Bool
ends m r = m == r.asked.0 + 3_000

abbrev pub goes_on : ℕ → Round → Bool
goes_on m r = not (ends m r)

-- a round of this next hop ends at this moment
unfoldable pub is_ending : ℕ → List Round → Ip4 → Bool
is_ending m rs hop = list_any (λ r. is_round_of hop r && ends m r) rs

-- the request that it sends
abbrev pub ask_of : Round → Ask
ask_of r = record { hop = r.hop; source = r.source }

-- the next moment at which something is due for it
abbrev pub due_after : ℕ → Round → Option ℕ
due_after moment r =
    if nat_lt moment (r.asked.0 + 1_000) then Some (r.asked.0 + 1_000)
    else (if nat_lt moment (r.asked.0 + 2_000) then Some (r.asked.0 + 2_000)
    else (if nat_lt moment (r.asked.0 + 3_000) then Some (r.asked.0 + 3_000) else None))

abbrev pub least : Option ℕ → Option ℕ → Option ℕ
least None b = b
least (Some a) None = Some a
least (Some a) (Some b) = Some (min a b)

-- the least moment to come at which something is due
abbrev pub next_among : ℕ → List Round → Option ℕ
next_among moment [] = None
next_among moment (r ∷ rs) = least (due_after moment r) (next_among moment rs)
