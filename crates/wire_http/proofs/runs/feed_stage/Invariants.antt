use Rattle.std.proofs.Common.{◌≡◌, ◌<◌, ◌≤◌, ◌-◌, ℕ, false, length, take, drop}
use Rattle.wire_http.specs.Stages.{walk, is_ended}
use Rattle.wire_http.proofs.runs.feed_stage.Given as goal

abbrev pub invariant-loop-read : goal.invariant-loop-read
invariant-loop-read l =
    (walk l.fn.stage (take l.read l.piece) ≡ (take l.placed l.place, l.now))
    × ((k : ℕ) → k < l.read → is_ended (walk l.fn.stage (take k l.piece)).1 ≡ false)
    × (drop l.placed l.place ≡ drop l.placed l.fn.place)
    × (l.read ≤ length l.piece) × (l.placed ≤ length l.place)
    × (length l.place ≡ length l.fn.place)

abbrev pub decreases-loop-read : goal.decreases-loop-read
decreases-loop-read l = length l.piece - l.read
