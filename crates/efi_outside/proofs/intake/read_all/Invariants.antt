-- What came so far is what the source no longer has left.
use Rattle.std.proofs.Common.{◌-◌, ◌≡◌, ◌≤◌, length, vec_len}
use Rattle.std.specs.Io.KnownBytes.{Consumes}
use Rattle.efi_outside.proofs.intake.read_all.Given as goal

abbrev pub invariant-loop-input : goal.invariant-loop-input
invariant-loop-input g l = record {
  room : vec_len l.room ≡ 65536;
  within : length l.input.items ≤ 2147483649;
  taken : Consumes (g.S.Source.left l.initial.src) (g.S.Source.left l.src) l.input.items;
  count : g.S.Source.faults l.src ≡ g.S.Source.faults l.initial.src;
}

abbrev pub decreases-loop-input : goal.decreases-loop-input
decreases-loop-input g l = 2147483649 - vec_len l.input
