use Rattle.std.proofs.Common.{◌≡◌, ◌+◌, ◌-◌, ◌≤◌, vec_len}
use Rattle.std.specs.Vec.{vec_capacity}
use Rattle.ip_core.proofs.Closing.{IsClosing}
use Rattle.ip_core.proofs.reasm.close_old.Given as goal

abbrev pub invariant-loop-place : goal.invariant-loop-place
invariant-loop-place l =
    IsClosing l.now l.place l.initial.pools.items l.pools.items
    × (vec_len l.pools + vec_len l.free ≡ vec_len l.initial.pools + vec_len l.initial.free)
    × (vec_capacity l.pools ≡ vec_capacity l.initial.pools)
    × (vec_capacity l.initial.free ≤ vec_capacity l.free)

abbrev pub decreases-loop-place : goal.decreases-loop-place
decreases-loop-place l = vec_len l.pools - l.place
