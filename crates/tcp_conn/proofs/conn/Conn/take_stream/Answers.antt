use Rattle.std.proofs.Common.{ap, sym, ◌∙◌, Some, option_map}
use Rattle.tcp_send.specs.Sender.{Sender}
use Rattle.tcp_conn.specs.Inside.{seen}
use Rattle.tcp_conn.specs.Owed.{cut_out}
use Rattle.tcp_conn.proofs.FirstNumbers.{now-iss}
use Rattle.tcp_conn.proofs.conn.Conn.take_stream.Goals as goal

pub invariant_of-self : goal.invariant_of-self
invariant_of-self c = record {
  limit = c.self.invariant.limit;
  room = c.self.invariant.room;
  window = c.self.invariant.window;
  iss = c.self.invariant.iss ∙ sym (ap (λ (s : Sender). s.iss) c.next_segment-cut.ensures.sender ∙ now-iss c.self.inside.send c.self.inside.at);
}

pub invariant_of-self-in-None : goal.invariant_of-self-in-None
invariant_of-self-in-None c = record {
  limit = c.self.invariant.limit;
  room = c.self.invariant.room;
  window = c.self.invariant.window;
  iss = c.self.invariant.iss ∙ sym (ap (λ (s : Sender). s.iss) c.next_segment-cut.ensures.sender ∙ now-iss c.self.inside.send c.self.inside.at);
}

pub returns-in-Some-clause-segment : goal.returns-in-Some-clause-segment
returns-in-Some-clause-segment c = rw (← c.self.view_is)
    (ap (λ x. Some x) (c.cut_out.ensures
    ∙ ap (λ n. cut_out (record (seen c.self.inside) { sender = record c.self.inside.send { iss = n } }) c.in-Some.cut) (ap (λ (s : Sender). s.iss) c.next_segment-cut.ensures.sender ∙ now-iss c.self.inside.send c.self.inside.at))
    ∙ ap (option_map (cut_out (seen c.self.inside))) (c.in-Some.ensures.cut))

pub returns-in-Some-clause-part : goal.returns-in-Some-clause-part
returns-in-Some-clause-part c = rw (← c.self.view_is)
    (λ text keeps. record {
      cut = c.in-Some.cut;
      true_cut = c.in-Some.ensures.true_cut text keeps;
      segment = c.cut_out.ensures
          ∙ ap (λ n. cut_out (record (seen c.self.inside) { sender = record c.self.inside.send { iss = n } }) c.in-Some.cut)
          (ap (λ (s : Sender). s.iss) c.next_segment-cut.ensures.sender ∙ now-iss c.self.inside.send c.self.inside.at);
    })
