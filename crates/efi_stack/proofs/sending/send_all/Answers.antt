use Rattle.std.proofs.Common.{count_by, refl, subst, sym, ap, ◌∙◌}
use Rattle.efi_stack.specs.Sends.{AreSent, fits}
use Rattle.efi_stack.proofs.Fronts.{front-none, up-to}
use Rattle.efi_stack.proofs.sending.send_all.Goals as goal

pub returns-clause-sent : goal.returns-clause-sent
returns-clause-sent g c =
    let none = front-none c.loop-f.mnp.drive.outbox.messages (sym c.take_down.ensures.first ∙ c.in_default.is) in
    let wire = g.L.Link.wire c.loop-f.link in
    c.loop-f.invariant.more c.take_down.new.self wire
    (subst (λ fs. AreSent fs c.loop-f.mnp c.take_down.new.self wire wire) (sym none) (c.in_default.ensures.none, refl))

pub returns-clause-tried : goal.returns-clause-tried
returns-clause-tried g c =
    let none = front-none c.loop-f.mnp.drive.outbox.messages (sym c.take_down.ensures.first ∙ c.in_default.is) in
    up-to 18446744073709551615 c.loop-f.tried (count_by fits c.loop-f.mnp.drive.outbox.messages) (count_by fits c.args.mnp.now.drive.outbox.messages)
    c.loop-f.invariant.small (ap (count_by fits) none) c.loop-f.invariant.tried
