-- Segments in flight, which stand one behind the other.
use Rattle.std.specs.Prelude.{◌≡◌, ℕ, ◌+◌, ◌-◌, ◌≤◌, Bool, true, false, IsTrue, nat_le, List, [], ◌∷◌, ⊤, if◌then◌else◌}
use Rattle.tcp_send.specs.declared.flight.Segment.{Segment}

abbrev pub no_segment : Segment
no_segment = record { len = 0; psh = false; fin = false }

-- a FIN takes one number behind the octets (RFC 9293, section 3.4)
abbrev pub fin_number : Bool → ℕ
fin_number false = 0
fin_number true = 1

-- how many octets segments have
abbrev pub octets_of : List Segment → ℕ
octets_of [] = 0
octets_of (s ∷ ss) = s.len + octets_of ss

-- the place where segments begin, and the segments
pub record Flight : Type 0 where
  pub base : ℕ
  pub segments : List Segment

-- what stays in flight of segments from the place `base` on, once all before the place `una` is acknowledged: each segment
-- that isn't acknowledged as a whole (RFC 9293, section 3.10.7.4: "any segments .. which are thereby entirely acknowledged are
-- removed")
abbrev pub left_of : ℕ → ℕ → List Segment → Flight
left_of una base [] = record { base = base; segments = [] }
left_of una base (s ∷ ss) =
    if nat_le (base + s.len + fin_number s.fin) una then left_of una (base + s.len) ss else record { base = base; segments = s ∷ ss }

-- segments were cut from so many octets, from their front on: at most 1,460 octets each, FIN only behind the last of them, and only
-- where no more will come
pub record IsCutFrom (finished : Bool) (octets : ℕ) (s : Segment) : Type 0 where
  pub within : s.len ≤ octets
  pub most : s.len ≤ 1460
  pub fin : IsTrue s.fin → IsTrue finished
  pub last : IsTrue s.fin → s.len ≡ octets

abbrev pub AreCutFrom : Bool → ℕ → List Segment → Type 0
AreCutFrom finished octets [] = ⊤
AreCutFrom finished octets (s ∷ ss) = IsCutFrom finished octets s × AreCutFrom finished (octets - s.len) ss
