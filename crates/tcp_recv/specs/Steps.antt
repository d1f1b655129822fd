-- What a receiver stands for after any list of cuts and takes (RFC 9293, section 3.4).
use Rattle.std.specs.Prelude.{◌≡◌, ℕ, ◌+◌, ⊤, List, fold}
use Rattle.tcp_recv.specs.Stream.{Board, Cut, empty, after_cut}
use Rattle.tcp_recv.specs.Receiver.{Receiver, Stands}
use Rattle.tcp_recv.specs.Peer.{IsPart}

-- a cut is heard, or so many bytes are taken
pub data Step : Type 0 where
  hears : Cut → Step
  takes : ℕ → Step

-- what is kept of the stream, and how many of its bytes were taken
pub record Course : Type 0 where
  pub board : Board
  pub taken : ℕ

abbrev pub start : Course
start = record { board = empty; taken = 0 }

abbrev pub after_step : ℕ → ℕ → Course → Step → Course
after_step irs cap c (hears cut) = record { board = after_cut irs cap c.taken c.board cut; taken = c.taken }
after_step irs cap c (takes n) = record { board = c.board; taken = c.taken + n }

-- with the peer's first number, and a window of so many bytes
abbrev pub course_of : ℕ → ℕ → List Step → Course
course_of irs cap steps = fold (after_step irs cap) start steps

-- the receiver holds what these steps leave of the stream, and gave these bytes of it
pub record StandsFor (steps : List Step) (given : List ℕ) (r : Receiver) : Type 0 where
  pub stands : Stands (course_of r.irs r.cap steps).board given r
  pub taken : r.taken ≡ (course_of r.irs r.cap steps).taken

-- where a cut is heard, it is of the peer's stream
abbrev pub IsStepOf : ℕ → List ℕ → Step → Type 0
IsStepOf irs stream (hears cut) = IsPart irs stream cut
IsStepOf irs stream (takes n) = ⊤
