use Rattle.std.proofs.Common.{◌≡◌, ◌++◌, ◌+◌, ◌≤◌, drop, map, filter, length}
use Rattle.std.specs.VecDeque.{deque_len, deque_capacity}
use Rattle.ip_hops.specs.Rounds.{asks_again, ask_of}
use Rattle.ip_hops.proofs.round.ask_again.Given as goal

abbrev pub invariant-loop-r : goal.invariant-loop-r
invariant-loop-r l = record {
  asked : l.asks.items ++ map ask_of (filter (asks_again l.m.0) (drop l.r-index l.rounds)) ≡ l.initial.asks.items ++ map ask_of (filter (asks_again l.m.0) l.rounds);
  room : deque_len l.asks + length (drop l.r-index l.rounds) ≤ deque_capacity l.asks;
}
