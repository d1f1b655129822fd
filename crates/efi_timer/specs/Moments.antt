-- What a contract sees of timers: a list of numbers, each with its moment.
use Rattle.std.specs.Prelude.{ℕ, Bool, ◌==◌, not, nat_lt, nat_le, List, [], ◌∷◌, ◌++◌, filter, find, Option, Some, None, option_map, if◌then◌else◌}
use Rattle.efi_base.specs.declared.plain.Tick.{Tick}
use Rattle.efi_timer.specs.declared.timers.Timer.{Timer}

-- a timer comes before another by its moment, at one moment by its number
abbrev pub comes_before : Timer → Timer → Bool
comes_before a b = if a.at.0 == b.at.0 then nat_lt a.id b.id else nat_lt a.at.0 b.at.0

abbrev pub earlier : Option Timer → Option Timer → Option Timer
earlier None b = b
earlier (Some a) None = Some a
earlier (Some a) (Some b) = if comes_before b a then Some b else Some a

-- the timer that comes before all others
abbrev pub soonest : List Timer → Option Timer
soonest [] = None
soonest (t ∷ ts) = earlier (Some t) (soonest ts)

abbrev pub is_other : ℕ → Timer → Bool
is_other id t = not (t.id == id)

-- the moment of a number
abbrev pub moment_of : List Timer → ℕ → Option Tick
moment_of ts id = option_map (λ (t : Timer). t.at) (find (λ t. t.id == id) ts)

abbrev pub set_to : List Timer → ℕ → Tick → List Timer
set_to ts id at = filter (is_other id) ts ++ record { id = id; at = at } ∷ []

-- the number that is due, if there is one
abbrev pub due_id : Option Timer → Tick → Option ℕ
due_id None now = None
due_id (Some t) now = if nat_le t.at.0 now.0 then Some t.id else None

abbrev pub after_due : List Timer → Option ℕ → List Timer
after_due ts None = ts
after_due ts (Some id) = filter (is_other id) ts
