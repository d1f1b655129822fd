-- What a contract sees of a connection, and what is true of each.
use Rattle.std.specs.Prelude.{◌≡◌, ◌≤◌}
use Rattle.tcp_conn.specs.declared.conn.Conn.TheInside.{Inside}
use Rattle.tcp_conn.specs.Connection.{Connection}
use Rattle.tcp_conn.specs.Sides.{cap_of}

abbrev pub seen : Inside → Connection
seen b = record {
  state = b.state;
  aborted = b.aborted;
  closed = b.closed;
  limit = b.limit;
  scale = b.scale;
  at = b.at;
  since = b.since;
  syn = b.syn;
  ack_owed = b.ack_owed;
  reset_owed = b.reset_owed;
  receiver = b.recv;
  sender = b.send;
}

-- there is room for the window with scaling, and the window is what both sides agreed on
pub record IsConn (b : Inside) : Type 0 where
  pub limit : b.limit ≤ 1460
  pub room : b.recv.room ≡ 1048560
  pub window : b.recv.cap ≡ cap_of b.scale
  pub iss : b.iss ≡ b.send.iss
