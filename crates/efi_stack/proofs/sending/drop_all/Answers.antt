use Rattle.std.proofs.Common.{sym, ◌∙◌}
use Rattle.efi_stack.proofs.Fronts.{front-none, nothing-none}
use Rattle.efi_stack.proofs.sending.drop_all.Goals as goal

pub returns : goal.returns
returns c =
    let none = front-none c.loop-gone.mnp.drive.outbox.messages (sym c.take_down.ensures.first ∙ c.in_default.is) in
    record { after = c.in_default.ensures.none ∙ nothing-none c.loop-gone.mnp none ∙ c.loop-gone.invariant }
