-- How the download of a capture ends: at the first record that meets a case, and with the first case that it meets.
use Rattle.std.specs.Prelude.{◌≡◌, ℕ, ⊤, Bool, List, [], ◌∷◌, ◌++◌, Option, Some, None}
use Rattle.wire_l4.specs.Segment.{Segment}
use Rattle.tcp_recv.specs.Stream.{Board, empty, front, is_over}
use Rattle.load_core.specs.Cases.{Meets, IsFirstCase}
use Rattle.efi_base.specs.declared.load_end.LoadEnd.{LoadEnd}
use Rattle.tap_core.specs.Connections.{after_heard, board_after, is_reset_at}

-- what is kept of the stream meets the case, with a buffer of so many octets; reset says that the record's segment resets
-- the connection
abbrev pub MeetsOf : ℕ → Board → Bool → LoadEnd → Type 0
MeetsOf most board reset end = Meets most (front board.kept) (is_over board) reset end

-- the answer is the first case that is met, and None where none is
abbrev pub IsFirstEnd : ℕ → Board → Bool → Option LoadEnd → Type 0
IsFirstEnd most board reset end = IsFirstCase most (front board.kept) (is_over board) reset end

-- the same of a record, with this kept of the stream before it
abbrev pub IsFirstEndAt : ℕ → ℕ → Board → Option Segment → Option LoadEnd → Type 0
IsFirstEndAt most irs board heard end = IsFirstEnd most (after_heard irs board heard) (is_reset_at irs board heard) end

-- none of the records meets a case, with this kept of the stream before them
abbrev pub MeetNothing : ℕ → ℕ → Board → List (Option Segment) → Type 0
MeetNothing most irs board [] = ⊤
MeetNothing most irs board (h ∷ heard) =
    IsFirstEndAt most irs board h None × MeetNothing most irs (after_heard irs board h) heard

-- the record behind these is the first that meets a case, and this is its first one
pub record EndsBehind (most irs : ℕ) (heard before : List (Option Segment)) (last : Option Segment) (end : LoadEnd) : Type 0 where
  pub after : List (Option Segment)
  pub parts : heard ≡ before ++ last ∷ after
  pub nothing : MeetNothing most irs empty before
  pub first : IsFirstEndAt most irs (board_after irs before) last (Some end)
