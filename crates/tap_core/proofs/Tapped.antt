-- One record more, at each stage of a tap.
use Rattle.std.proofs.Common.{◌≡◌, ℕ, ◌+◌, ◌-◌, suc, ◌≤◌, ◌<◌, Bool, true, false, List, [], ◌∷◌, ◌++◌, length, take, drop, All, Option, Some, None, IsTrue, if◌then◌else◌, inl, inr, refl, sym, ap, subst, ◌∙◌, rules, arith}
use Rattle.std.proofs.lemmas.List.{length-append, append_assoc, take_all, drop-append-le, take-append-le, length-drop}
use Rattle.std.proofs.Math.Seq.{drop-length}
use Rattle.std.proofs.lemmas.List.Elements.{All-append, All-cons, All-nil}
use Rattle.efi_base.specs.declared.plain.Record.{Record}
use Rattle.wire_l4.specs.Segment.{Segment}
use Rattle.tcp_recv.specs.Stream.{Board, empty}
use Rattle.efi_base.specs.declared.load_end.LoadEnd.{LoadEnd}
use Rattle.efi_base.specs.declared.load_end.LoadEnd.TheVariants.{OutOfTime, NoConnection}
use Rattle.tap_core.specs.declared.passive.Seen.{Seen}
use Rattle.tap_core.specs.Answering.{accepting_number}
use Rattle.tap_core.specs.Connections.{Connects, accepts_at, board_after}
use Rattle.tap_core.specs.Ends.{EndsBehind, MeetNothing, IsFirstEndAt}
use Rattle.tap_core.specs.Heard.{segments_heard}
use Rattle.tap_core.specs.Hearing.{heard_at, pools_from}
use Rattle.tap_core.specs.Openings.{Opening, openings_of, IsFirstAt}
use Rattle.tap_core.specs.Segments.{accepts}
use Rattle.tap_core.specs.Shows.{Telling, heard_behind, HasConnection}
use Rattle.tap_core.specs.Tapping.{IsEnded}
use Rattle.tap_core.specs.Watching.{IsSeenOf, IsSeen}
use Rattle.tap_core.proofs.HeardLaws.{segments-length, segments-next}
use Rattle.tap_core.proofs.Records.{first-next, first-within}

-- what is heard at a record behind these
abbrev pub heard_next : Opening → List Record → Record → Option Segment
heard_next o records r = heard_at o (pools_from o [] records) r

-- what is heard behind the opening with one record more
pub behind-next : (o : Opening) (records : List Record) (n : ℕ) (r : Record) → n < length records
    → heard_behind (records ++ r ∷ []) n o ≡ heard_behind records n o ++ heard_next o records r ∷ []
behind-next o records n r h =
    ap (drop (suc n)) (segments-next o records r)
    ∙ drop-append-le (suc n) (segments_heard o records) (heard_next o records r ∷ []) (omega (arith, h, segments-length o records))

-- behind the last record nothing is heard
pub behind-last : (o : Opening) (records : List Record) (r : Record) → heard_behind (records ++ r ∷ []) (length records) o ≡ []
behind-last o records r =
    let count : suc (length records) ≡ length (segments_heard o (records ++ r ∷ [])) = omega (arith, segments-length o (records ++ r ∷ []), length-append records (r ∷ [])) in
    ap (λ n. drop n (segments_heard o (records ++ r ∷ []))) count ∙ drop-length (segments_heard o (records ++ r ∷ []))

pub nothing-accepts : (o : Opening) (records : List Record) (r : Record) → All (λ h. accepts_at o.seq h ≡ false) (heard_behind (records ++ r ∷ []) (length records) o)
nothing-accepts o records r =
    subst (All (λ h. accepts_at o.seq h ≡ false)) (sym (behind-last o records r)) (All-nil (λ h. accepts_at o.seq h ≡ false))

if-none : (b : Bool) (n : ℕ) → None ≡ (if b then Some n else None) → b ≡ false
if-none true n e = search rules
if-none false n e = refl

-- a record that gives no number accepts nothing
number-none : (seq : ℕ) (h : Option Segment) → None ≡ accepting_number seq h → accepts_at seq h ≡ false
number-none seq None e = refl
number-none seq (Some s) e = if-none (accepts seq s) s.seq e

if-some : (b : Bool) (n m : ℕ) → Some n ≡ (if b then Some m else None) → IsTrue b × (n ≡ m)
if-some true n m e = (refl, search rules)
if-some false n m e = search rules

number-some : (seq n : ℕ) (h : Option Segment) → Some n ≡ accepting_number seq h → (s : Segment) × (h ≡ Some s) × IsTrue (accepts seq s) × (n ≡ s.seq)
number-some seq n None e = search rules
number-some seq n (Some s) e = let both = if-some (accepts seq s) n s.seq e in (s, refl, both.0, both.1)

-- no record accepted the connection, and one more doesn't
pub answers-none : (o : Opening) (records : List Record) (n : ℕ) (r : Record) → n < length records
    → All (λ h. accepts_at o.seq h ≡ false) (heard_behind records n o) → None ≡ accepting_number o.seq (heard_next o records r)
    → All (λ h. accepts_at o.seq h ≡ false) (heard_behind (records ++ r ∷ []) n o)
answers-none o records n r h before none =
    subst (All (λ h. accepts_at o.seq h ≡ false)) (sym (behind-next o records n r h))
    (All-append (λ h. accepts_at o.seq h ≡ false) (heard_behind records n o) (heard_next o records r ∷ []) before
    (All-cons (λ h. accepts_at o.seq h ≡ false) (heard_next o records r) [] (number-none o.seq (heard_next o records r) none) (All-nil (λ h. accepts_at o.seq h ≡ false))))

-- the first that does
pub answers-first : (o : Opening) (records : List Record) (n : ℕ) (r : Record) (irs : ℕ) → IsFirstAt (openings_of records) n o
    → All (λ h. accepts_at o.seq h ≡ false) (heard_behind records n o) → Some irs ≡ accepting_number o.seq (heard_next o records r)
    → HasConnection (records ++ r ∷ []) o irs (suc n + suc (length (heard_behind records n o))) []
answers-first o records n r irs first before there =
    let found = number-some o.seq irs (heard_next o records r) there in
    record {
      at = n;
      is_first = first-next records r n o first;
      answer = found.0;
      answer_at = length (heard_behind records n o);
      connects = record {
        before = heard_behind records n o;
        parts = behind-next o records n r (first-within records n o first) ∙ ap (λ h. heard_behind records n o ++ h ∷ []) found.1;
        none = before;
        accepted = found.2;
        place_is = refl;
      };
      irs_is = found.3;
      place_is = refl;
    }

connects-longer : (seq : ℕ) (heard after more : List (Option Segment)) (place : ℕ) (answer : Segment) → Connects seq heard place answer after
    → Connects seq (heard ++ more) place answer (after ++ more)
connects-longer seq heard after more place answer c = record {
  before = c.before;
  parts = ap (λ l. l ++ more) c.parts ∙ append_assoc c.before (Some answer ∷ after) more;
  none = c.none;
  accepted = c.accepted;
  place_is = c.place_is;
}

-- the connection with one record more
pub connection-next : (records : List Record) (r : Record) (o : Opening) (irs place : ℕ) (heard : List (Option Segment)) → HasConnection records o irs place heard
    → HasConnection (records ++ r ∷ []) o irs place (heard ++ heard_next o records r ∷ [])
connection-next records r o irs place heard c = record {
  at = c.at;
  is_first = first-next records r c.at o c.is_first;
  answer = c.answer;
  answer_at = c.answer_at;
  connects = subst (λ h. Connects o.seq h c.answer_at c.answer (heard ++ heard_next o records r ∷ []))
      (sym (behind-next o records c.at r (first-within records c.at o c.is_first)))
      (connects-longer o.seq (heard_behind records c.at o) heard (heard_next o records r ∷ []) c.answer_at c.answer c.connects);
  irs_is = c.irs_is;
  place_is = c.place_is;
}

-- what is heard on it reaches to the last record
pub connection-length : (records : List Record) (o : Opening) (irs place : ℕ) (heard : List (Option Segment)) → HasConnection records o irs place heard
    → place + length heard ≡ length records
connection-length records o irs place heard c =
    let within : suc c.at ≤ length records = omega (arith, first-within records c.at o c.is_first) in
    let count : length (heard_behind records c.at o) ≡ length records - suc c.at =
    length-drop (suc c.at) (segments_heard o records) ∙ ap (λ n. n - suc c.at) (segments-length o records) in
    omega (arith, c.place_is, c.connects.place_is, ap length c.connects.parts, length-append c.connects.before (Some c.answer ∷ heard), count, within)

ends-longer : (most irs : ℕ) (heard before more : List (Option Segment)) (last : Option Segment) (end : LoadEnd) → EndsBehind most irs heard before last end
    → EndsBehind most irs (heard ++ more) before last end
ends-longer most irs heard before more last end e = record {
  after = e.after ++ more;
  parts = ap (λ l. l ++ more) e.parts ∙ append_assoc before (last ∷ e.after) more;
  nothing = e.nothing;
  first = e.first;
}

abbrev telling-of : LoadEnd → Option Opening → Board → List Record → Telling
telling-of end opening board upto = record { end = end; opening = opening; board = board; upto = upto }

-- a record behind the end changes nothing
pub ended-next : (most : ℕ) (records : List Record) (r : Record) (s : Seen) → IsEnded most records s → IsEnded most (records ++ r ∷ []) s
ended-next most records r s ended =
    let e = ended.shows in
    let board = board_after e.irs (e.before ++ e.last ∷ []) in
    let count = e.place + suc (length e.before) in
    let within : count ≤ length records = omega (arith, connection-length records e.opening e.irs e.place e.heard e.connection, ap length e.ends.parts, length-append e.before (e.last ∷ e.ends.after)) in
    record {
      telling = ended.telling;
      shows = record {
        opening = e.opening;
        irs = e.irs;
        place = e.place;
        heard = e.heard ++ heard_next e.opening records r ∷ [];
        connection = connection-next records r e.opening e.irs e.place e.heard e.connection;
        before = e.before;
        last = e.last;
        end = e.end;
        ends = ends-longer most e.irs e.heard e.before (heard_next e.opening records r ∷ []) e.last e.end e.ends;
        told = e.told ∙ ap (telling-of e.end (Some e.opening) board) (sym (take-append-le count records (r ∷ []) within));
      };
      seen = ended.seen;
    }

take-whole : (n : ℕ) (l : List Record) → n ≡ length l → take n l ≡ l
take-whole n l e = take_all n l (omega (arith, e))

-- the download ends at the next record
pub ends-here : (most : ℕ) (records : List Record) (r : Record) (o : Opening) (irs place : ℕ) (heard : List (Option Segment)) (end : LoadEnd) (s : Seen)
    → HasConnection records o irs place heard → MeetNothing most irs empty heard
    → IsFirstEndAt most irs (board_after irs heard) (heard_next o records r) (Some end)
    → IsSeenOf most (record { end = end; opening = Some o; board = board_after irs (heard ++ heard_next o records r ∷ []); upto = records ++ r ∷ [] }) s
    → IsEnded most (records ++ r ∷ []) s
ends-here most records r o irs place heard end s connection nothing first seen =
    let here = heard_next o records r in
    let board = board_after irs (heard ++ here ∷ []) in
    let count : place + suc (length heard) ≡ length (records ++ r ∷ []) = omega (arith, connection-length records o irs place heard connection, length-append records (r ∷ [])) in
    record {
      telling = telling-of end (Some o) board (records ++ r ∷ []);
      shows = record {
        opening = o;
        irs = irs;
        place = place;
        heard = heard ++ here ∷ [];
        connection = connection-next records r o irs place heard connection;
        before = heard;
        last = here;
        end = end;
        ends = record { after = []; parts = refl; nothing = nothing; first = first };
        told = ap (telling-of end (Some o) board) (sym (take-whole (place + suc (length heard)) (records ++ r ∷ []) count));
      };
      seen = seen;
    }

-- what was seen of an end is seen
pub seen-end : (most : ℕ) (records : List Record) (s : Seen) → IsEnded most records s → IsSeen most records s
seen-end most records s e = record { telling = e.telling; shows = inr (inr (inl e.shows)); seen = e.seen }

-- the capture ended first
pub seen-late : (most : ℕ) (records : List Record) (o : Opening) (irs place : ℕ) (heard : List (Option Segment)) (s : Seen) → HasConnection records o irs place heard
    → MeetNothing most irs empty heard → IsSeenOf most (record { end = OutOfTime; opening = Some o; board = board_after irs heard; upto = records }) s → IsSeen most records s
seen-late most records o irs place heard s connection nothing seen = record {
  telling = telling-of OutOfTime (Some o) (board_after irs heard) records;
  shows = inr (inr (inr (record {
    opening = o;
    irs = irs;
    place = place;
    heard = heard;
    connection = connection;
    nothing = nothing;
    told = refl;
  })));
  seen = seen;
}

-- no segment accepted the connection
pub seen-unanswered : (most : ℕ) (records : List Record) (o : Opening) (at : ℕ) (s : Seen) → IsFirstAt (openings_of records) at o
    → All (λ h. accepts_at o.seq h ≡ false) (heard_behind records at o)
    → IsSeenOf most (record { end = NoConnection; opening = Some o; board = empty; upto = records }) s → IsSeen most records s
seen-unanswered most records o at s first none seen = record {
  telling = telling-of NoConnection (Some o) empty records;
  shows = inr (inl (record { at = at; opening = o; is_first = first; none = none; told = refl }));
  seen = seen;
}

-- no segment asked for one
pub seen-unopened : (most : ℕ) (records : List Record) (s : Seen) → All (λ x. x ≡ None) (openings_of records)
    → IsSeenOf most (record { end = NoConnection; opening = None; board = empty; upto = records }) s → IsSeen most records s
seen-unopened most records s none seen = record {
  telling = telling-of NoConnection None empty records;
  shows = inl (record { none = none; told = refl });
  seen = seen;
}
