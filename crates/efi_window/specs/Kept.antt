-- The places of a ring that are kept: a bit for each, in words of 64 bits.
use Rattle.std.specs.Prelude.{◌≡◌, ◌+◌, ◌-◌, ◌/◌, ◌%◌, ◌<◌, ◌≤◌, ◌==◌, ℕ, zero, suc, Bool, true, false, List, [], ◌∷◌, length, get_or, Option, Some, None}
use Rattle.std.specs.Int.{bit_at}

-- whether the bit of a place is set: the lowest bit of the first word is the bit of place 0
unfoldable pub is_kept : List ℕ → ℕ → Bool
is_kept words place = bit_at (get_or words (place / 64) 0) (place % 64) == 1

-- a byte where one is kept
abbrev pub slot : Bool → ℕ → Option ℕ
slot false byte = None
slot true byte = Some byte

-- the slots of so many places from one on, in a ring with room for so many bytes: a place, counted from the one at the ring's
-- front, stands at its number modulo the room
abbrev pub slots : ℕ → List ℕ → List ℕ → ℕ → ℕ → List (Option ℕ)
slots room ring words place zero = []
slots room ring words place (suc count) =
    slot (is_kept words (place % room)) (get_or ring (place % room) 0) ∷ slots room ring words (suc place) count

-- A run of bytes, or the first of them, was put into a ring from an index on, where none was kept.
pub record IsPut (at count : ℕ) (bytes ring words now new : List ℕ) : Type 0 where
  pub ring_len : length now ≡ length ring
  pub words_len : length new ≡ length words
  pub marked : (i : ℕ) → at ≤ i → i < at + count → is_kept new i ≡ true
  pub added : (i : ℕ) → at ≤ i → i < at + count → is_kept words i ≡ false → get_or now i 0 ≡ get_or bytes (i - at) 0
  pub stays : (i : ℕ) → is_kept words i ≡ true → (is_kept new i ≡ true) × (get_or now i 0 ≡ get_or ring i 0)
  pub below : (i : ℕ) → i < at → is_kept new i ≡ is_kept words i
  pub above : (i : ℕ) → at + count ≤ i → is_kept new i ≡ is_kept words i

-- Bytes were put into a ring from a place on, where none was kept: the places of the ring from that one on are told, all
-- round.
pub record IsPlaced (room place : ℕ) (bytes ring words now new : List ℕ) : Type 0 where
  pub ring_len : length now ≡ length ring
  pub words_len : length new ≡ length words
  pub marked : (i : ℕ) → i < length bytes → is_kept new ((place + i) % room) ≡ true
  pub added : (i : ℕ) → i < length bytes → is_kept words ((place + i) % room) ≡ false
      → get_or now ((place + i) % room) 0 ≡ get_or bytes i 0
  pub stays : (i : ℕ) → is_kept words i ≡ true → (is_kept new i ≡ true) × (get_or now i 0 ≡ get_or ring i 0)
  pub others : (i : ℕ) → length bytes ≤ i → i < room → is_kept new ((place + i) % room) ≡ is_kept words ((place + i) % room)
