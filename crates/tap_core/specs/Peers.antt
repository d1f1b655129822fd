-- A peer that is honest on a connection, and where its response succeeds.
use Rattle.std.specs.Prelude.{◌≡◌, ℕ, ◌-◌, ◌^◌, ◌<◌, ◌≤◌, ⊤, List, [], ◌∷◌, ◌++◌, length, Option, Some, None, IsTrue}
use Rattle.std.specs.List.{AllByRecursion}
use Rattle.wire_l4.specs.Segment.{Segment}
use Rattle.tcp_recv.specs.Peer.{IsPart}
use Rattle.tcp_recv.specs.Stream.{empty, front, is_over}
use Rattle.wire_http.specs.Response.{IsWhole}
use Rattle.tap_core.specs.Connections.{board_after}
use Rattle.tap_core.specs.Ends.{MeetNothing}
use Rattle.tap_core.specs.Segments.{is_cut, cut_of}

-- what is heard at a record is of the peer's stream: where it is a cut, it is a part of it
abbrev pub IsOf : ℕ → List ℕ → Option Segment → Type 0
IsOf irs stream None = ⊤
IsOf irs stream (Some s) = IsTrue (is_cut s) → IsPart irs stream (cut_of s)

-- the peer speaks this stream, from its first number on (RFC 9293, section 3.4). Nothing is asked of order, loss or
-- repetition.
pub record IsHonest (irs : ℕ) (stream : List ℕ) (heard : List (Option Segment)) : Type 0 where
  pub bound : length stream < 2 ^ 31 - 2 ^ 17
  pub parts_of_it : AllByRecursion (IsOf irs stream) heard

-- at a record the accepted stream holds a whole response of status 200, whose body fits the buffer, and none before it
-- meets a case that ends the download
pub record Succeeds (most irs : ℕ) (heard : List (Option Segment)) : Type 0 where
  pub before : List (Option Segment)
  pub last : Option Segment
  pub after : List (Option Segment)
  pub parts : heard ≡ before ++ last ∷ after
  pub nothing : MeetNothing most irs empty before
  pub body : List ℕ
  pub whole : IsWhole (front (board_after irs (before ++ last ∷ [])).kept) (is_over (board_after irs (before ++ last ∷ []))) 200 body
  pub fits : length body ≤ most
