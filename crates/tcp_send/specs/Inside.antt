-- What a contract sees of a sender, and what is true of each.
use Rattle.std.specs.Prelude.{◌≡◌}
use Rattle.tcp_send.specs.declared.sender.Send.TheInside.{Inside}
use Rattle.tcp_send.specs.Sender.{Sender, IsSender}

abbrev pub seen : Inside → Sender
seen b = record {
  iss = b.iss;
  m = b.m;
  window = b.window;
  una = b.una;
  base = b.base;
  kept = b.ring.items;
  finished = b.finished;
  fin_sent = b.fin_sent;
  flight = b.flight.items;
  backoff = b.backoff;
  probing = b.probing;
}

-- there is room for 65,536 octets
pub record IsSend (b : Inside) : Type 0 where
  pub capacity : b.ring.capacity ≡ 65536
  pub sender : IsSender (seen b)
