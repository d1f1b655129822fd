-- What an honest peer sends of its stream, however it cuts it, and however the network loses, repeats or reorders it.
use Rattle.std.specs.Prelude.{◌≡◌, ℕ, ◌+◌, ◌-◌, ◌%◌, ◌^◌, ◌<◌, ◌≤◌, List, ◌++◌, length, take, drop, fold, IsTrue}
use Rattle.tcp_recv.specs.Receiver.{ends_at}
use Rattle.tcp_recv.specs.Stream.{Cut, Board, empty, front, after_cut}

-- where a number stands in a stream of fewer than 2^32 bytes: its distance from the first byte's number
abbrev pub true_place : ℕ → ℕ → ℕ
true_place irs seq = (seq + 2 ^ 32 - (irs + 1) % 2 ^ 32) % 2 ^ 32

-- a cut of a peer's stream: its bytes are those at its number's place, and it has a FIN only at the stream's end
pub record IsPart (irs : ℕ) (stream : List ℕ) (cut : Cut) : Type 0 where
  pub number : cut.seq < 2 ^ 32
  pub within : true_place irs cut.seq ≤ length stream
  pub bytes : cut.bytes ≡ take (length cut.bytes) (drop (true_place irs cut.seq) stream)
  pub fin : IsTrue cut.fin → true_place irs cut.seq + length cut.bytes ≡ length stream

-- a cut, and how many bytes had been taken before it
pub record Heard : Type 0 where
  pub taken : ℕ
  pub cut : Cut

-- what is kept after cuts
abbrev pub board_after : ℕ → ℕ → List Heard → Board
board_after irs cap heard = fold (λ board h. after_cut irs cap h.taken board h.cut) empty heard

-- what is kept is of the stream: what is accepted is a front of it, and the end is reached only where that is all of it
pub record IsFrontOf (stream : List ℕ) (board : Board) : Type 0 where
  pub rest : List ℕ
  pub front_is : stream ≡ front board.kept ++ rest
  pub whole : IsTrue (ends_at (length (front board.kept)) board.end) → front board.kept ≡ stream
