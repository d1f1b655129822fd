use Rattle.std.proofs.Common.{ap, sym, ◌∙◌}
use Rattle.tcp_send.specs.Sender.{Sender}
use Rattle.tcp_conn.proofs.FirstNumbers.{ack-iss, bare_ack-iss}
use Rattle.tcp_conn.proofs.conn.Conn.acknowledge_by.Goals as goal

pub invariant_of-self : goal.invariant_of-self
invariant_of-self c = record {
  limit = c.self.invariant.limit;
  room = c.self.invariant.room;
  window = c.self.invariant.window;
  iss = c.self.invariant.iss ∙ sym (ap (λ (s : Sender). s.iss) c.on_ack.ensures ∙ ack-iss c.self.inside.send c.self.inside.at c.args.s.now.seq c.args.s.now.ack c.scaled.result);
}

pub invariant_of-self-2 : goal.invariant_of-self-2
invariant_of-self-2 c = record {
  limit = c.self.invariant.limit;
  room = c.self.invariant.room;
  window = c.self.invariant.window;
  iss = c.self.invariant.iss ∙ sym (ap (λ (s : Sender). s.iss) c.on_bare_ack.ensures ∙ bare_ack-iss c.self.inside.send c.self.inside.at c.args.s.now.ack);
}
