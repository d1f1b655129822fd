use Rattle.std.proofs.Common.{◌≡◌, ◌+◌, ◌-◌, ap, ◌∙◌, arith}
use Rattle.efi_stack.proofs.Fronts.{on-ok}
use Rattle.efi_stack.proofs.Moments.{ticks-moment}
use Rattle.efi_stack.proofs.stack.Stack.tick.Goals as goal

pub returns-clause-moment : goal.returns-clause-moment
returns-clause-moment c =
    let old = c.args.self.now.arp in
    let now = c.args.now.0 in
    let up : old.moment.0 + (now - old.moment.0) ≡ now = omega (arith, c.requires.later) in
    on-ok c.tick.result _ _ (λ e. ap (λ d. d.moment.0) e ∙ ticks-moment (now - old.moment.0) old ∙ up) c.tick.ensures.ok
