use Rattle.std.proofs.Common.{◌≡◌, ℕ, ◌+◌, ◌<◌, get_or}
use Rattle.session_text.specs.Image.{fill_octet}
use Rattle.session_text.proofs.pieces.fill_run.Given as goal

abbrev pub invariant-loop-cell : goal.invariant-loop-cell
invariant-loop-cell l =
    (l.at ≡ l.place + l.cell-index) × ((k : ℕ) → k < l.cell-index → get_or l.room k 0 ≡ fill_octet l.first (l.place + k))
