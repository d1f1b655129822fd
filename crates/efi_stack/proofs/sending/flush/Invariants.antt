use Rattle.std.proofs.Common.{◌≡◌, ◌≤◌, ◌+◌, ◌-◌, ◌^◌, [], length, min}
use Rattle.efi_link.specs.Wires.{Wire}
use Rattle.efi_book.specs.Books.{Keeps}
use Rattle.drv_snp.specs.Flushes.{with_queue}
use Rattle.drv_mnp.specs.Mnps.{MnpState}
use Rattle.efi_stack.specs.Sends.{AreFlushed}
use Rattle.efi_stack.proofs.sending.flush.Given as goal

-- whatever goes on from here goes on with the whole
abbrev pub invariant-loop-sent : goal.invariant-loop-sent
invariant-loop-sent g l = record {
  more : (m : MnpState) (w : Wire) → AreFlushed l.snp.queue l.mnp m (g.L.Link.wire l.link) w → AreFlushed l.initial.snp.queue l.initial.mnp m (g.L.Link.wire l.initial.link) w;
  device : with_queue l.snp [] ≡ with_queue l.initial.snp [];
  tried : min (2 ^ 64 - 1) (l.tried + length l.snp.queue) ≡ min (2 ^ 64 - 1) (length l.initial.snp.queue);
  waiting : l.mnp.drive.outbox ≡ l.initial.mnp.drive.outbox;
  small : l.tried ≤ 2 ^ 64 - 1;
  made : g.L.Link.made l.link ≡ g.L.Link.made l.initial.link;
  keeps : Keeps l.initial.mnp.drive.tokens l.mnp.drive.tokens;
}

abbrev pub decreases-loop-sent : goal.decreases-loop-sent
decreases-loop-sent g l = length l.snp.queue
