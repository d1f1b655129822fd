use Rattle.std.proofs.Common.{◌≡◌, ◌-◌, ◌≤◌, ◌<◌, ℕ, length}
use Rattle.efi_window.specs.Kept.{is_kept}
use Rattle.efi_window.proofs.bits.mark.Given as goal

abbrev pub invariant-loop-at : goal.invariant-loop-at
invariant-loop-at l = record {
  least : l.from ≤ l.at;
  most : l.at ≤ l.end;
  len : length l.words ≡ length l.initial.words;
  inside : (i : ℕ) → l.from ≤ i → i < l.at → is_kept l.words i ≡ l.set;
  below : (i : ℕ) → i < l.from → is_kept l.words i ≡ is_kept l.initial.words i;
  above : (i : ℕ) → l.at ≤ i → is_kept l.words i ≡ is_kept l.initial.words i;
}

abbrev pub decreases-loop-at : goal.decreases-loop-at
decreases-loop-at l = l.end - l.at
