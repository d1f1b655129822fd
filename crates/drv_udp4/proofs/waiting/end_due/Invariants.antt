use Rattle.std.proofs.Common.{◌≡◌}
use Rattle.efi_base.specs.declared.tokens.End.TheVariants.{ReceiveTimeout}
use Rattle.efi_book.specs.Books.{Keeps}
use Rattle.efi_book.specs.Rounds.{all_ended, rounds}
use Rattle.drv_udp4.specs.Ticks.{is_due}
use Rattle.drv_udp4.proofs.waiting.end_due.Given as goal

abbrev pub invariant-loop-left : goal.invariant-loop-left
invariant-loop-left l = record {
  whole : rounds (is_due l.m.0) ReceiveTimeout l.left l.tokens ≡ all_ended (is_due l.m.0) ReceiveTimeout l.initial.tokens;
  keeps : Keeps l.initial.tokens l.tokens;
}

abbrev pub decreases-loop-left : goal.decreases-loop-left
decreases-loop-left l = l.left
