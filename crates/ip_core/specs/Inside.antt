-- What is true of the memory of each reassembly.
use Rattle.std.specs.Prelude.{◌≡◌, ℕ, ◌+◌, ◌≤◌, length, Option, Some, None}
use Rattle.std.specs.Vec.{vec_capacity}
use Rattle.ip_core.specs.Pools.{most_bytes, most_pools}
use Rattle.ip_core.specs.declared.slot.Slot.TheInside as slot
use Rattle.ip_core.specs.declared.reasm.Reasm.TheInside as reasm

-- an end lies within the most bytes
abbrev pub IsWithin : Option ℕ → Type 0
IsWithin None = Unit {0}
IsWithin (Some end) = end ≤ most_bytes

-- the window is the whole of a datagram's places, of which none was taken
pub record IsSlot (s : slot.Inside) : Type 0 where
  pub room : s.window.room ≡ most_bytes
  pub whole : s.window.cap ≡ most_bytes
  pub from_start : s.window.taken ≡ 0
  pub end_within : IsWithin s.end

-- each slot is open or free, there is memory to move any of them from one list to the other, and for the octets of a datagram
pub record IsReasm (r : reasm.Inside) : Type 0 where
  pub slots : length r.pools.items + length r.free.items ≡ most_pools
  pub pools_memory : most_pools ≤ vec_capacity r.pools
  pub free_memory : most_pools ≤ vec_capacity r.free
  pub room : length r.room.items ≤ most_bytes
  pub room_memory : most_bytes ≤ vec_capacity r.room
