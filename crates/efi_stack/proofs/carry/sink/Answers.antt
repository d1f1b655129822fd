use Rattle.std.proofs.Common.{◌≡◌, [], ◌∷◌, drop, sym, ap, ◌∙◌}
use Rattle.efi_book.specs.Books.{times}
use Rattle.efi_stack.specs.Carries.{all_carried, carried, emptied}
use Rattle.efi_stack.proofs.Fronts.{front-some, front-none, emptied-none}
use Rattle.efi_stack.proofs.carry.sink.Goals as goal

pub loop-a-preserved : goal.loop-a-preserved
loop-a-preserved c =
    let waiting = c.loop-a.arp.drive.outbox.messages in
    let split : waiting ≡ c.in-Some.a ∷ drop 1 waiting = front-some waiting c.in-Some.a (sym c.take_down.ensures.first ∙ c.in-Some.is) in
    record {
      whole = ap (λ m. all_carried m c.take_down.new.self.drive.outbox.messages) c.in_ok-carry.ensures.ok
          ∙ ap (λ d. all_carried (carried c.loop-a.mnp c.in-Some.a) d.drive.outbox.messages) c.in-Some.ensures.some
          ∙ sym (ap (all_carried c.loop-a.mnp) split) ∙ c.loop-a.invariant.whole;
      rest = ap emptied c.in-Some.ensures.some ∙ c.loop-a.invariant.rest;
      keeps_mnp = λ o. c.in_ok-carry.ensures.keeps o ∙ c.loop-a.invariant.keeps_mnp o;
      keeps_arp = λ o. ap (λ d. times o d.drive.tokens) c.in-Some.ensures.some ∙ c.loop-a.invariant.keeps_arp o;
    }

pub returns-clause-mnp : goal.returns-clause-mnp
returns-clause-mnp c =
    let none = front-none c.loop-a.arp.drive.outbox.messages (sym c.take_down.ensures.first ∙ c.in_default.is) in
    sym (ap (all_carried c.loop-a.mnp) none) ∙ c.loop-a.invariant.whole

pub returns-clause-arp : goal.returns-clause-arp
returns-clause-arp c =
    let none = front-none c.loop-a.arp.drive.outbox.messages (sym c.take_down.ensures.first ∙ c.in_default.is) in
    c.in_default.ensures.none ∙ emptied-none c.loop-a.arp none ∙ c.loop-a.invariant.rest
