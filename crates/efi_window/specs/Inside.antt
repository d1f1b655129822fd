-- What is true of each window that is kept in a ring.
use Rattle.std.specs.Prelude.{◌≡◌, ◌+◌, ◌-◌, ◌*◌, ◌%◌, ◌^◌, ◌<◌, ◌≤◌, ℕ, min, true, false, length}
use Rattle.std.specs.Vec.{vec_capacity}
use Rattle.efi_window.specs.Kept.{is_kept}
use Rattle.efi_window.specs.declared.by_place.Window.TheInside.{Inside}

-- where the place so far behind the first one that wasn't taken stands in the ring
abbrev pub spot : Inside → ℕ → ℕ
spot w i = (w.taken - w.origin + i) % w.room

-- how much of the ring is used, from its front on: up to the last byte, and all of it once that one stands past the ring's end
abbrev pub used : Inside → ℕ
used w = min (w.taken - w.origin + w.span) w.room

-- There is memory for all of the window, what is kept lies within it and below 2^62, the ring and its bits reach as far as the ring is
-- used, the last place that counts has a byte, and behind it all places of the ring are free.
pub record IsWindow (w : Inside) : Type 0 where
  pub cap : w.cap ≤ w.room
  pub ring : used w ≤ length w.ring.items
  pub words : used w ≤ 64 * length w.words.items
  pub ring_memory : w.room ≤ vec_capacity w.ring
  pub words_memory : w.room ≤ 64 * vec_capacity w.words
  pub span : w.span ≤ w.cap
  pub taken : w.taken + w.span ≤ 2 ^ 62
  pub origin : w.origin ≤ w.taken
  pub free : (i : ℕ) → w.span ≤ i → i < w.room → is_kept w.words.items (spot w i) ≡ false
  pub last : 0 < w.span → is_kept w.words.items (spot w (w.span - 1)) ≡ true
