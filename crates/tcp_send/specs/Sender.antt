-- The sender: facts of the past from which it follows what is sent when.
use Rattle.std.specs.Prelude.{◌≡◌, ℕ, ◌+◌, ◌-◌, ◌^◌, ◌==◌, ◌≤◌, ◌&&◌, ◌||◌, min, not, Bool, true, false, IsTrue, nat_le, nat_lt, List, [], ◌∷◌, ◌++◌, length, take, drop, Option, Some, None, if◌then◌else◌, slice_get, option_map, is_none}
use Rattle.std.specs.Option.{option_map_or, option_and_then}
use Rattle.efi_base.specs.declared.plain.Tick.{Tick}
use Rattle.tcp_send.specs.declared.backoff.Backoff.{Backoff}
use Rattle.tcp_send.specs.declared.flight.Segment.{Segment}
use Rattle.tcp_send.specs.declared.peer_window.SendWindow.{SendWindow}
use Rattle.tcp_send.specs.declared.text.Cut.{Cut}
use Rattle.tcp_send.specs.Rows.{is_row, row_tick, started}
use Rattle.tcp_send.specs.Numbers.{number_of, distance}
use Rattle.tcp_send.specs.PeerWindow.{updated}
use Rattle.tcp_send.specs.Flight.{fin_number, octets_of, left_of, AreCutFrom}

pub record Sender : Type 0 where
  -- the number of the SYN
  pub iss : ℕ
  -- m: the most octets of a segment; 0 until the connection is established
  pub m : ℕ
  -- wnd with the two numbers of the segment that gave it
  pub window : SendWindow
  -- una: the greatest place acknowledged by what was heard, FIN counted as one place
  pub una : ℕ
  -- the place of the first octet that is kept: where the oldest segment in flight begins
  pub base : ℕ
  -- the octets that were pushed, from that place on
  pub kept : List ℕ
  -- no more octets will be pushed: FIN stands behind the last one
  pub finished : Bool
  -- FIN was sent
  pub fin_sent : Bool
  -- the segments that were sent and aren't acknowledged as a whole, from the oldest on, as they were first cut
  pub flight : List Segment
  -- P, and how many rows have passed since P; none where nothing waits for a row, and in an event that brings the first octet to wait
  pub backoff : Option Backoff
  -- what is in flight went by the rule for window 0, and the window is still 0
  pub probing : Bool

-- nothing was pushed, heard or sent
abbrev pub fresh : ℕ → Sender
fresh iss = record {
  iss = iss;
  m = 0;
  window = record { size = 0; seq = 0; ack = 0 };
  una = 0;
  base = 0;
  kept = [];
  finished = false;
  fin_sent = false;
  flight = [];
  backoff = None;
  probing = false;
}

-- how many octets were pushed
abbrev pub pushed_of : Sender → ℕ
pushed_of s = s.base + length s.kept

-- how many octets were sent
abbrev pub sent_of : Sender → ℕ
sent_of s = s.base + octets_of s.flight

-- how many octets weren't sent
abbrev pub unsent_of : Sender → ℕ
unsent_of s = length s.kept - octets_of s.flight

-- the place past all that was sent, FIN counted
abbrev pub next_place : Sender → ℕ
next_place s = sent_of s + fin_number s.fin_sent

-- how many rows have passed
abbrev pub passed_of : Option Backoff → ℕ
passed_of None = 0
passed_of (Some b) = b.passed

-- the row behind the eighth retransmission has passed
abbrev pub has_given_up : Sender → Bool
has_given_up s = nat_lt 8 (passed_of s.backoff)

-- the connection is established, and wasn't given up
abbrev pub is_open : Sender → Bool
is_open s = nat_lt 0 s.m && not (has_given_up s)

-- an octet or FIN wasn't sent yet
abbrev pub has_more : Sender → Bool
has_more s = nat_lt 0 (unsent_of s) || s.finished && not s.fin_sent

-- something waits for a row: a segment in flight, or with window 0 the next octet or FIN
abbrev pub waits : Sender → Bool
waits s = nat_lt 0 (length s.flight) || s.window.size == 0 && has_more s

-- the rows count from this tick, where something waits for one
abbrev pub restarted : Tick → Sender → Sender
restarted now s = record s { backoff = if waits s then Some (started now) else None }

-- as many octets as the buffer has room for, none at place 2^62 or later, and none once no more will come
abbrev pub push_count : Sender → List ℕ → ℕ
push_count s bytes = if s.finished then 0 else min (min (2 ^ 62 - pushed_of s) (length bytes)) (65536 - length s.kept)

abbrev pub after_push : Sender → List ℕ → Sender
after_push s bytes = record s { kept = s.kept ++ take (push_count s bytes) bytes }

abbrev pub after_finish : Sender → Sender
after_finish s = record s { finished = true }

-- established by a segment with this number and window, whose acknowledgment is that of the SYN
abbrev pub after_begin : Sender → Tick → ℕ → ℕ → ℕ → Sender
after_begin s now seq size m = restarted now (record s { m = m; window = record { size = size; seq = seq; ack = number_of s.iss 0 } })

-- how far an acknowledgment stands past una
abbrev pub ahead_of : Sender → ℕ → ℕ
ahead_of s ack = distance (number_of s.iss s.una) ack

-- an acknowledgment counts that is at least una, and of nothing that wasn't sent
abbrev pub counts : Sender → ℕ → Bool
counts s ack = is_open s && nat_le (ahead_of s ack) (next_place s - s.una)

-- all before the place una is acknowledged
abbrev pub acknowledged : Sender → ℕ → Sender
acknowledged s una = record s {
  una = una;
  base = (left_of una s.base s.flight).base;
  kept = drop ((left_of una s.base s.flight).base - s.base) s.kept;
  flight = (left_of una s.base s.flight).segments;
}

-- nothing is in flight but what went by the rule for window 0
abbrev pub is_idle : Sender → Bool
is_idle s = s.probing || length s.flight == 0

-- so far ahead is acknowledged, with this window then: P is this tick where that is new, or where nothing is in flight; what went by
-- the rule for window 0 is in flight as other segments are once the window is above 0
abbrev pub after_heard : Sender → Tick → ℕ → SendWindow → Sender
after_heard s now ahead window =
    let t = record (acknowledged s (s.una + ahead)) { window = window; probing = s.probing && (window.size == 0 && nat_lt 0 (length (acknowledged s (s.una + ahead)).flight)) } in
    if nat_lt 0 ahead || is_idle s then restarted now t else t

-- a segment with these numbers is heard
abbrev pub after_ack : Sender → Tick → ℕ → ℕ → ℕ → Sender
after_ack s now seq ack size = if counts s ack then after_heard s now (ahead_of s ack) (updated s.window seq ack size) else s

-- an acknowledgment is heard on a segment whose window doesn't count
abbrev pub after_bare_ack : Sender → Tick → ℕ → Sender
after_bare_ack s now ack = if counts s ack then after_heard s now (ahead_of s ack) s.window else s

-- the next row is there for what waits
abbrev pub is_due : Sender → Tick → Bool
is_due s now = waits s && option_map_or (λ b. is_row b now) s.backoff false

-- the octets in flight: those sent and not acknowledged
abbrev pub in_flight : Sender → ℕ
in_flight s = sent_of s - s.una

-- fewer than 8 segments are in flight, and fewer octets than the window
abbrev pub may_send : Sender → Bool
may_send s = has_more s && (nat_lt (length s.flight) 8 && nat_lt (in_flight s) s.window.size)

-- the next segment of at most so many octets: PSH where it has the last octet that is there, FIN behind the last octet of all
abbrev pub first_cut : Sender → ℕ → Segment
first_cut s most = record {
  len = min most (unsent_of s);
  psh = nat_lt 0 (unsent_of s) && nat_le (unsent_of s) most;
  fin = s.finished && nat_le (unsent_of s) most;
}

-- a segment at a place that is kept, with its octets
abbrev pub cut_at : Sender → ℕ → Segment → Cut
cut_at s place segment = record {
  place = place;
  psh = segment.psh;
  fin = segment.fin;
  payload = record { items = take segment.len (drop (place - s.base) s.kept) };
}

abbrev pub with_sent : Sender → Segment → Sender
with_sent s segment = record s { flight = s.flight ++ segment ∷ []; fin_sent = segment.fin }

-- one more row has passed
abbrev pub row_passed : Option Backoff → Option Backoff
row_passed None = None
row_passed (Some b) = Some (record b { passed = b.passed + 1 })

-- what goes at a row: the oldest segment again, or with nothing in flight the next octet; at the last row nothing
abbrev pub row_cut : Sender → Option Cut
row_cut s =
    if passed_of s.backoff == 8 then None
    else if length s.flight == 0 then Some (cut_at s (sent_of s) (first_cut s 1))
    else option_map (cut_at s s.base) (slice_get s.flight 0)

abbrev pub after_row : Sender → Sender
after_row s =
    let t = record s { backoff = row_passed s.backoff } in
    if not (passed_of s.backoff == 8) && length s.flight == 0 then record (with_sent t (first_cut s 1)) { probing = true } else t

-- the next new segment
abbrev pub new_segment : Sender → Segment
new_segment s = first_cut s (min s.m (s.window.size - in_flight s))

-- P is the tick of the first sending after nothing was in flight
abbrev pub after_new : Sender → Tick → Sender
after_new s now = record (with_sent s (new_segment s)) { backoff = if length s.flight == 0 then Some (started now) else s.backoff }

-- where nothing goes, and the first octet to wait was brought in this event, P is this tick
abbrev pub settled : Sender → Tick → Sender
settled s now = if is_none s.backoff then restarted now s else s

-- the segment that goes now, if one does
abbrev pub cut_now : Sender → Tick → Option Cut
cut_now s now =
    if not (is_open s) then None
    else if is_due s now then row_cut s
    else if may_send s then Some (cut_at s (sent_of s) (new_segment s))
    else None

abbrev pub after_now : Sender → Tick → Sender
after_now s now =
    if not (is_open s) then s
    else if is_due s now then after_row s
    else if may_send s then after_new s now
    else settled s now

-- once all segments of an event were taken: the next tick at which one goes, or the connection is given up
abbrev pub next_tick : Sender → Option Tick
next_tick s = if is_open s && waits s then option_and_then row_tick s.backoff else None

-- what is true of each sender
pub record IsSender (s : Sender) : Type 0 where
  pub most : s.m ≤ 1460
  pub passed : passed_of s.backoff ≤ 9
  pub pushed : pushed_of s ≤ 2 ^ 62
  pub base : s.base ≤ s.una
  pub una : s.una ≤ next_place s
  pub sent : octets_of s.flight ≤ length s.kept
  pub cuts : AreCutFrom s.finished (length s.kept) s.flight
  pub finished : IsTrue s.fin_sent → IsTrue s.finished
  pub ended : IsTrue s.fin_sent → octets_of s.flight ≡ length s.kept
