use Rattle.std.proofs.Common.{◌≡◌, ◌≤◌, ◌+◌, ◌-◌, ◌^◌, length, min, count_by}
use Rattle.efi_link.specs.Wires.{Wire}
use Rattle.efi_book.specs.Books.{Keeps}
use Rattle.drv_mnp.specs.Mnps.{MnpState}
use Rattle.efi_stack.specs.Sends.{AreSent, fits}
use Rattle.efi_stack.proofs.sending.send_all.Given as goal

-- whatever goes on from here goes on with the whole
abbrev pub invariant-loop-f : goal.invariant-loop-f
invariant-loop-f g l = record {
  more : (m : MnpState) (w : Wire) → AreSent l.mnp.drive.outbox.messages l.mnp m (g.L.Link.wire l.link) w
      → AreSent l.initial.mnp.drive.outbox.messages l.initial.mnp m (g.L.Link.wire l.initial.link) w;
  device : l.snp ≡ l.initial.snp;
  tried : min (2 ^ 64 - 1) (l.tried + count_by fits l.mnp.drive.outbox.messages) ≡ min (2 ^ 64 - 1) (count_by fits l.initial.mnp.drive.outbox.messages);
  small : l.tried ≤ 2 ^ 64 - 1;
  made : g.L.Link.made l.link ≡ g.L.Link.made l.initial.link;
  keeps : Keeps l.initial.mnp.drive.tokens l.mnp.drive.tokens;
}

abbrev pub decreases-loop-f : goal.decreases-loop-f
decreases-loop-f g l = length l.mnp.drive.outbox.messages
