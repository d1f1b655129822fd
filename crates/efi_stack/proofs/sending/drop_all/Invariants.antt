use Rattle.std.proofs.Common.{◌≡◌, length}
use Rattle.efi_stack.specs.Sends.{nothing_to_send}
use Rattle.efi_stack.proofs.sending.drop_all.Given as goal

abbrev pub invariant-loop-gone : goal.invariant-loop-gone
invariant-loop-gone l = nothing_to_send l.mnp ≡ nothing_to_send l.initial.mnp

abbrev pub decreases-loop-gone : goal.decreases-loop-gone
decreases-loop-gone l = length l.mnp.drive.outbox.messages
