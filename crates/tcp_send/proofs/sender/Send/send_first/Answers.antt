use Rattle.std.proofs.Common.{[], ◌∷◌, ◌++◌, ap, ◌∙◌, sym}
use Rattle.tcp_send.specs.Inside.{seen}
use Rattle.tcp_send.specs.Sender.{Sender, first_cut}
use Rattle.tcp_send.specs.declared.flight.Segment.{Segment}
use Rattle.tcp_send.proofs.Senders.{good-sent}
use Rattle.tcp_send.proofs.sender.Send.send_first.Goals as goal

pub invariant_of-self : goal.invariant_of-self
invariant_of-self c =
    let old = c.self.inside in
    let e = c.first_cut-segment.ensures ∙ ap (λ (s : Sender). first_cut s c.args.most) (sym c.self.view_is) in
    record {
      capacity = c.self.invariant.capacity;
      sender = good-sent (seen old) c.args.most c.first_cut-segment.result.fin c.push.new.self.items c.self.invariant.sender c.requires.most
          (c.push.ensures.items ∙ ap (λ (s : Segment). old.flight.items ++ s ∷ []) e) (ap (λ (s : Segment). s.fin) e);
    }
