-- Bytes by place, of which the first one at a place stays.
use Rattle.std.specs.Prelude.{ℕ, zero, suc, ◌+◌, ◌-◌, ◌^◌, min, max, List, [], ◌∷◌, take, drop, Option, Some, None}

-- the bytes of the longest front without a gap
abbrev pub front : List (Option ℕ) → List ℕ
front [] = []
front (None ∷ kept) = []
front (Some b ∷ kept) = b ∷ front kept

-- keeps bytes from a place on; a byte that stands there already stays
abbrev pub put : ℕ → List ℕ → List (Option ℕ) → List (Option ℕ)
put place [] kept = kept
put zero (b ∷ bytes) [] = Some b ∷ put zero bytes []
put zero (b ∷ bytes) (None ∷ kept) = Some b ∷ put zero bytes kept
put zero (b ∷ bytes) (Some old ∷ kept) = Some old ∷ put zero bytes kept
put (suc place) (b ∷ bytes) [] = None ∷ put place (b ∷ bytes) []
put (suc place) (b ∷ bytes) (k ∷ kept) = k ∷ put place (b ∷ bytes) kept

-- A window: the most places that it has memory for, how many it keeps, how many bytes were taken, and at each place
-- from there on a byte or none, up to the last byte.
pub record Places : Type 0 where
  pub room : ℕ
  pub cap : ℕ
  pub taken : ℕ
  pub held : List (Option ℕ)

-- nothing is kept, and nothing was taken
abbrev pub fresh : ℕ → ℕ → Places
fresh room cap = record { room = room; cap = cap; taken = 0; held = [] }

-- the bytes that are there without a gap and weren't taken
abbrev pub ready_of : Places → List ℕ
ready_of w = front w.held

-- the first place that keeps no byte: past the window, or 2^62
abbrev pub edge_of : Places → ℕ
edge_of w = min (w.taken + w.cap) (2 ^ 62)

-- what is held after those of the bytes from a place on that stand within the window were put
unfoldable pub held_after : Places → ℕ → List ℕ → List (Option ℕ)
held_after w place bytes = put (place - w.taken) (take (edge_of w - max place w.taken) (drop (w.taken - place) bytes)) w.held

-- bytes from a place on were put
abbrev pub after_put : Places → ℕ → List ℕ → Places
after_put w place bytes = record { room = w.room; cap = w.cap; taken = w.taken; held = held_after w place bytes }

-- the first bytes were taken
abbrev pub after_take : Places → ℕ → Places
after_take w count = record { room = w.room; cap = w.cap; taken = w.taken + count; held = drop count w.held }

-- so many bytes that stand next were passed on, where none is kept
abbrev pub after_pass : Places → ℕ → Places
after_pass w count = record { room = w.room; cap = w.cap; taken = w.taken + count; held = [] }
