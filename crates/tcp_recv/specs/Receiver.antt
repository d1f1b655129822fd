-- A receiver, as others see it.
use Rattle.std.specs.Prelude.{◌≡◌, ℕ, ◌+◌, ◌%◌, ◌^◌, ◌==◌, ◌&&◌, Bool, false, is_none, nat_le, if◌then◌else◌, List, [], ◌++◌, length, map, Option, Some, None}
use Rattle.tcp_recv.specs.Stream.{Board, front}

-- the peer's first number, the most places that it has memory for, the window, how many bytes were taken, what is
-- kept from there on, and the stream's end
pub record Receiver : Type 0 where
  pub irs : ℕ
  pub room : ℕ
  pub cap : ℕ
  pub taken : ℕ
  pub held : List (Option ℕ)
  pub end : Option ℕ

-- nothing was heard yet
abbrev pub fresh : ℕ → ℕ → ℕ → Receiver
fresh irs room cap = record { irs = irs; room = room; cap = cap; taken = 0; held = []; end = None }

-- the bytes that are there without a gap and weren't taken
abbrev pub untaken : Receiver → List ℕ
untaken r = front r.held

-- how many bytes are there without a gap, the taken ones with them
abbrev pub accepted_of : Receiver → ℕ
accepted_of r = r.taken + length (untaken r)

-- whether this place is the end
abbrev pub ends_at : ℕ → Option ℕ → Bool
ends_at place None = false
ends_at place (Some end) = end == place

-- whether the end is reached
abbrev pub is_ended : Receiver → Bool
is_ended r = ends_at (accepted_of r) r.end

-- the number of the next byte, past the end where that is reached
abbrev pub next_number : Receiver → ℕ
next_number r = (r.irs + 1 + accepted_of r + (if is_ended r then 1 else 0)) % 2 ^ 32

-- so many bytes from this number on stand next, and the window takes in all of them: none is kept, and no end is there
abbrev pub is_next : Receiver → ℕ → ℕ → Bool
is_next r seq count =
    length r.held == 0 && (is_none r.end && (seq == next_number r && (nat_le count r.cap && nat_le (accepted_of r + count) (2 ^ 62))))

-- the receiver holds what is kept of the stream, of which these bytes were given
pub record Stands (board : Board) (given : List ℕ) (r : Receiver) : Type 0 where
  pub count : r.taken ≡ length given
  pub kept : board.kept ≡ map (λ b. Some b) given ++ r.held
  pub end : board.end ≡ r.end
