use Rattle.std.proofs.Common.{◌≡◌, length}
use Rattle.efi_book.specs.Books.{Keeps}
use Rattle.efi_stack.specs.Carries.{all_carried, emptied}
use Rattle.efi_stack.proofs.carry.sink.Given as goal

-- those that are left make the whole of what is carried
abbrev pub invariant-loop-a : goal.invariant-loop-a
invariant-loop-a l = record {
  whole : all_carried l.mnp l.arp.drive.outbox.messages ≡ all_carried l.initial.mnp l.initial.arp.drive.outbox.messages;
  rest : emptied l.arp ≡ emptied l.initial.arp;
  keeps_mnp : Keeps l.initial.mnp.drive.tokens l.mnp.drive.tokens;
  keeps_arp : Keeps l.initial.arp.drive.tokens l.arp.drive.tokens;
}

abbrev pub decreases-loop-a : goal.decreases-loop-a
decreases-loop-a l = length l.arp.drive.outbox.messages
