-- What a cut does to a receiver.
use Rattle.std.specs.Prelude.{◌++◌, map, Some, drop, replicate}
use Rattle.tcp_recv.specs.Receiver.{Receiver}
use Rattle.tcp_recv.specs.Stream.{Board, Cut, after_cut}

-- what a receiver keeps of the stream: the places that were taken are filled, with whatever octets
abbrev pub board_of : Receiver → Board
board_of r = record { kept = map (λ b. Some b) (replicate r.taken 0) ++ r.held; end = r.end }

abbrev pub after_hearing : Receiver → Cut → Receiver
after_hearing r cut = record r {
  held = drop r.taken (after_cut r.irs r.cap r.taken (board_of r) cut).kept;
  end = (after_cut r.irs r.cap r.taken (board_of r) cut).end;
}
