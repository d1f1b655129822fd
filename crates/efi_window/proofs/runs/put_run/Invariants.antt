use Rattle.std.proofs.Common.{◌-◌, ◌≤◌}
use Rattle.efi_window.specs.Kept.{IsPut}
use Rattle.efi_window.proofs.runs.put_run.Given as goal

abbrev pub invariant-loop-next : goal.invariant-loop-next
invariant-loop-next l = record {
  least : l.at ≤ l.next;
  most : l.next ≤ l.end;
  put : IsPut l.at (l.next - l.at) l.bytes l.initial.ring l.initial.words l.ring l.words;
}

abbrev pub decreases-loop-next : goal.decreases-loop-next
decreases-loop-next l = l.end - l.next
