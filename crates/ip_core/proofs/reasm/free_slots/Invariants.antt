use Rattle.std.proofs.Common.{◌≡◌, ◌≤◌, vec_len}
use Rattle.std.specs.Vec.{vec_capacity}
use Rattle.ip_core.specs.Pools.{most_pools}
use Rattle.ip_core.proofs.reasm.free_slots.Given as goal

abbrev pub invariant-loop : goal.invariant-loop
invariant-loop l = (vec_len l.slots ≡ l.counter) × (most_pools ≤ vec_capacity l.slots)
