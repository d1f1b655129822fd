use Rattle.std.proofs.Common.{◌≡◌, ◌-◌, drop, length, map, string_bytes}
use Rattle.boot_words.specs.Captures.{capture_place, shifted}
use Rattle.boot_words.proofs.capture.capture_place.Given as goal

abbrev pub invariant-loop-place : goal.invariant-loop-place
invariant-loop-place l =
    shifted l.place (capture_place (map string_bytes (drop l.place l.words))) ≡ capture_place (map string_bytes l.words)

abbrev pub decreases-loop-place : goal.decreases-loop-place
decreases-loop-place l = length l.words - l.place
