use Rattle.std.proofs.Common.{◌≡◌, ◌-◌, ◌≤◌, ◌<◌, ℕ}
use Rattle.efi_window.specs.Kept.{is_kept}
use Rattle.efi_window.proofs.bits.run_end.Given as goal

abbrev pub invariant-loop-at : goal.invariant-loop-at
invariant-loop-at l = record {
  least : l.from ≤ l.at;
  most : l.at ≤ l.end;
  alike : (i : ℕ) → l.from ≤ i → i < l.at → is_kept l.words i ≡ l.set;
}

abbrev pub decreases-loop-at : goal.decreases-loop-at
decreases-loop-at l = l.end - l.at
