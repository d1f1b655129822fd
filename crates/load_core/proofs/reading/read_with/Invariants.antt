-- Up to `at` the piece was read.
use Rattle.std.proofs.Common.{◌≡◌, ◌≤◌, ◌+◌, ◌-◌, ◌++◌, ℕ, List, length, take}
use Rattle.std.specs.Io.{StartsWith}
use Rattle.load_core.specs.Taken.{Reads, ReadsOn}
use Rattle.load_core.proofs.reading.read_with.Given as goal

abbrev pub invariant-loop-at : goal.invariant-loop-at
invariant-loop-at l = record {
  inside : l.at ≤ length l.piece;
  info : l.reading.info ≡ l.fn.reading.info;
  some : length l.room ≡ length l.fn.room;
  front : StartsWith l.placed.items l.fn.placed.items;
  reads : (rest octets : List ℕ) → Reads l.fn.reading rest octets → l.fn.placed.items ≡ take l.most octets
      → length rest + length l.piece ≤ 4611686018427387904
      → ReadsOn l.reading l.most l.placed.items (rest ++ take l.at l.piece) octets;
}

abbrev pub decreases-loop-at : goal.decreases-loop-at
decreases-loop-at l = length l.piece - l.at
