-- The stream that a peer's segments make, by places, however they are lost, repeated or reordered (RFC 9293,
-- section 3.4, with a window that is counted from what was taken).
use Rattle.std.specs.Prelude.{ℕ, ◌+◌, ◌-◌, ◌%◌, ◌^◌, min, Bool, false, ◌&&◌, ◌==◌, List, [], length, take, drop, Option, Some, None, nat_lt, nat_le, if◌then◌else◌, is_none}
use Rattle.std.specs.List.{list_all}
use Rattle.std.specs.Option.{option_map_or}
pub use Rattle.efi_window.specs.Places.{front, put}

-- a segment's number, its bytes, and whether the stream ends behind them
pub record Cut : Type 0 where
  pub seq : ℕ
  pub bytes : List ℕ
  pub fin : Bool

-- at each place a byte or none, and the place where the stream ends. The place of a byte is its distance from the
-- stream's first byte.
pub record Board : Type 0 where
  pub kept : List (Option ℕ)
  pub end : Option ℕ

-- nothing was heard yet
abbrev pub empty : Board
empty = record { kept = []; end = None }

-- how far a number stands before the next one that is expected, modulo 2^32; from 2^31 on it stands behind
abbrev pub ahead : ℕ → ℕ → ℕ → ℕ
ahead irs accepted seq = (seq + 2 ^ 32 - (irs + 1 + accepted) % 2 ^ 32) % 2 ^ 32

-- where a segment's first byte that has a place stands, and how many bytes in front of it have none
pub record Place : Type 0 where
  pub place : ℕ
  pub skipped : ℕ

-- the place that is congruent to the number within 2^31 of the accepted length
abbrev pub place_of : ℕ → ℕ → ℕ → Place
place_of irs accepted seq =
    let d = ahead irs accepted seq in
    let back = 2 ^ 32 - d in
    if nat_lt d (2 ^ 31) then record { place = accepted + d; skipped = 0 }
    else record { place = accepted - back; skipped = back - accepted }

-- the first place that takes no byte: past the window, at the end, or at 2^62
abbrev pub limit_of : ℕ → ℕ → Option ℕ → ℕ
limit_of cap taken None = min (taken + cap) (2 ^ 62)
limit_of cap taken (Some end) = min end (min (taken + cap) (2 ^ 62))

-- the end after a FIN at the place f: it counts up to the window's edge, where no end is there and nothing is kept at
-- or past it
abbrev pub end_after : ℕ → ℕ → List (Option ℕ) → Option ℕ → ℕ → Option ℕ
end_after cap taken kept (Some end) f = Some end
end_after cap taken kept None f =
    if nat_le f (taken + cap) && (nat_lt f (2 ^ 62) && list_all is_none (drop f kept)) then Some f else None

-- what is kept after a cut that stands there
abbrev pub after_placed : ℕ → ℕ → Board → Cut → Place → Board
after_placed cap taken board cut p =
    let bytes = drop p.skipped cut.bytes in
    let kept = put p.place (take (limit_of cap taken board.end - p.place) bytes) board.kept in
    record {
      kept = kept;
      end = if cut.fin && nat_le p.skipped (length cut.bytes) then end_after cap taken kept board.end (p.place + length bytes) else board.end;
    }

-- what is kept after a cut, with the peer's first number, and a window of so many bytes from what was taken
unfoldable pub after_cut : ℕ → ℕ → ℕ → Board → Cut → Board
after_cut irs cap taken board cut = after_placed cap taken board cut (place_of irs (length (front board.kept)) cut.seq)

-- the stream's end is there, and all bytes before it
abbrev pub is_over : Board → Bool
is_over board = option_map_or (λ end. end == length (front board.kept)) board.end false
