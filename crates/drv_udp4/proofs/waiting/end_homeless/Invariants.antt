use Rattle.std.proofs.Common.{◌≡◌}
use Rattle.efi_base.specs.declared.tokens.End.TheVariants.{NoMapping}
use Rattle.efi_book.specs.Books.{Keeps}
use Rattle.efi_book.specs.Rounds.{all_ended, rounds}
use Rattle.drv_udp4.specs.Udps.{uses_home}
use Rattle.drv_udp4.proofs.waiting.end_homeless.Given as goal

abbrev pub invariant-loop-left : goal.invariant-loop-left
invariant-loop-left l = record {
  whole : rounds (uses_home l.children) NoMapping l.left l.tokens ≡ all_ended (uses_home l.children) NoMapping l.initial.tokens;
  keeps : Keeps l.initial.tokens l.tokens;
}

abbrev pub decreases-loop-left : goal.decreases-loop-left
decreases-loop-left l = l.left
