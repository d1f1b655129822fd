-- A sender after any list of calls.
use Rattle.std.specs.Prelude.{◌≡◌, ℕ, ◌+◌, ◌≤◌, max, ⊤, List, [], ◌∷◌, ◌++◌, length, take, fold, Option, Some, None, if◌then◌else◌}
use Rattle.std.specs.List.{AllByRecursion}
use Rattle.efi_base.specs.declared.plain.Tick.{Tick}
use Rattle.tcp_send.specs.declared.text.Cut.{Cut}
use Rattle.tcp_send.specs.Sender.{Sender, IsSender, fresh, push_count, after_push, after_finish, after_begin, counts, ahead_of, after_ack, after_bare_ack, cut_now, after_now}
use Rattle.tcp_send.specs.Stream.{Keeps, IsTrueCut}

pub data Call : Type 0 where
  -- octets are pushed
  pushes : List ℕ → Call
  finishes : Call
  -- at a tick the connection is established by a number and a window, with at most so many octets a segment
  begins : Tick → ℕ → ℕ → ℕ → Call
  -- at a tick a number, an acknowledgment and a window are heard
  hears : Tick → ℕ → ℕ → ℕ → Call
  -- an acknowledgment alone
  hears_bare : Tick → ℕ → Call
  -- at a tick the next segment is taken
  takes : Tick → Call

-- segments have at most 1,460 octets
abbrev pub IsCall : Call → Type 0
IsCall (pushes bytes) = ⊤
IsCall finishes = ⊤
IsCall (begins now seq size m) = m ≤ 1460
IsCall (hears now seq ack size) = ⊤
IsCall (hears_bare now ack) = ⊤
IsCall (takes now) = ⊤

-- the sender, the octets that it took in, the segments that it gave and the places that it heard acknowledged, the newest first
pub record Course : Type 0 where
  pub sender : Sender
  pub text : List ℕ
  pub sent : List Cut
  pub acked : List ℕ

abbrev pub start : ℕ → Course
start iss = record { sender = fresh iss; text = []; sent = []; acked = [] }

abbrev pub with_cut : Option Cut → List Cut → List Cut
with_cut None sent = sent
with_cut (Some cut) sent = cut ∷ sent

-- an acknowledgment names a place from una on, where it counts
abbrev pub with_acked : Sender → ℕ → List ℕ → List ℕ
with_acked s ack acked = if counts s ack then (s.una + ahead_of s ack) ∷ acked else acked

abbrev pub after_call : Course → Call → Course
after_call c (pushes bytes) = record c { sender = after_push c.sender bytes; text = c.text ++ take (push_count c.sender bytes) bytes }
after_call c finishes = record c { sender = after_finish c.sender }
after_call c (begins now seq size m) = record c { sender = after_begin c.sender now seq size m }
after_call c (hears now seq ack size) = record c { sender = after_ack c.sender now seq ack size; acked = with_acked c.sender ack c.acked }
after_call c (hears_bare now ack) = record c { sender = after_bare_ack c.sender now ack; acked = with_acked c.sender ack c.acked }
after_call c (takes now) = record c { sender = after_now c.sender now; sent = with_cut (cut_now c.sender now) c.sent }

abbrev pub course_of : ℕ → List Call → Course
course_of iss calls = fold after_call (start iss) calls

-- the greatest of places, 0 where there is none
abbrev pub greatest : List ℕ → ℕ
greatest [] = 0
greatest (place ∷ places) = max place (greatest places)

-- what is true after any calls: each segment was a true cut, at most 8 are in flight, and una is the greatest place acknowledged
pub record IsCourse (c : Course) : Type 0 where
  pub sound : IsSender c.sender
  pub keeps : Keeps c.text c.sender
  pub cuts : AllByRecursion (IsTrueCut c.text c.sender.finished) c.sent
  pub few : length c.sender.flight ≤ 8
  pub una : c.sender.una ≡ greatest c.acked
