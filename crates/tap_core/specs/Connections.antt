-- The connection that the peer accepts, and what is kept of its stream (RFC 9293, section 3.4).
use Rattle.std.specs.Prelude.{◌≡◌, ℕ, ◌+◌, ◌%◌, ◌^◌, ◌&&◌, ◌==◌, Bool, false, List, ◌∷◌, ◌++◌, length, fold, Option, Some, None, All, IsTrue, if◌then◌else◌}
use Rattle.std.specs.Option.{option_map_or}
use Rattle.wire_l4.specs.Segment.{Segment}
use Rattle.tcp_recv.specs.Stream.{Board, empty, front, after_cut}
use Rattle.tap_core.specs.Segments.{accepts, resets, is_cut, cut_of}

-- the window with which a captured stream is kept, in octets: a foreign client may scale its own
abbrev pub tap_window : ℕ
tap_window = 8388608

-- a segment is heard that accepts the connection
abbrev pub accepts_at : ℕ → Option Segment → Bool
accepts_at seq heard = option_map_or (accepts seq) heard false

-- the first segment that accepts the connection, at its place, and what is heard behind it
pub record Connects (seq : ℕ) (heard : List (Option Segment)) (place : ℕ) (answer : Segment) (after : List (Option Segment)) : Type 0 where
  pub before : List (Option Segment)
  pub parts : heard ≡ before ++ Some answer ∷ after
  pub none : All (λ h. accepts_at seq h ≡ false) before
  pub accepted : IsTrue (accepts seq answer)
  pub place_is : place ≡ length before

-- what is kept of the stream after a segment. Each accepted octet is taken at once.
unfoldable pub after_segment : ℕ → Board → Segment → Board
after_segment irs board s = if is_cut s then after_cut irs tap_window (length (front board.kept)) board (cut_of s) else board

-- the same after a record
abbrev pub after_heard : ℕ → Board → Option Segment → Board
after_heard irs board None = board
after_heard irs board (Some s) = after_segment irs board s

-- what is kept of the stream after records
abbrev pub board_after : ℕ → List (Option Segment) → Board
board_after irs heard = fold (after_heard irs) empty heard

-- a segment resets the connection: its number is that of the next octet
abbrev pub is_reset : ℕ → Board → Segment → Bool
is_reset irs board s = resets s && s.seq == (irs + 1 + length (front board.kept)) % 2 ^ 32

abbrev pub is_reset_at : ℕ → Board → Option Segment → Bool
is_reset_at irs board heard = option_map_or (is_reset irs board) heard false
