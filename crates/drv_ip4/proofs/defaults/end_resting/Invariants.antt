use Rattle.std.proofs.Common.{◌≡◌}
use Rattle.efi_base.specs.declared.tokens.End.TheVariants.{NoMapping}
use Rattle.efi_book.specs.Books.{Keeps}
use Rattle.efi_book.specs.Rounds.{all_ended, rounds}
use Rattle.drv_ip4.specs.Lost.{rests_on}
use Rattle.drv_ip4.proofs.defaults.end_resting.Given as goal

abbrev pub invariant-loop-left : goal.invariant-loop-left
invariant-loop-left l = record {
  whole : rounds (rests_on l.children) NoMapping l.left l.tokens ≡ all_ended (rests_on l.children) NoMapping l.initial.tokens;
  keeps : Keeps l.initial.tokens l.tokens;
}

abbrev pub decreases-loop-left : goal.decreases-loop-left
decreases-loop-left l = l.left
