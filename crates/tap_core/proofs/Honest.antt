-- What is kept of an honest peer's stream, and the response that it holds.
use Rattle.std.proofs.Common.{◌≡◌, ◌⊎◌, ℕ, ◌≤◌, ◌==◌, Bool, true, false, IsTrue, List, [], ◌∷◌, ◌++◌, length, fold, Option, Some, None, inl, inr, refl, sym, ap, subst, ◌∙◌, arith}
use Rattle.std.proofs.lemmas.List.{append-nil, length-append, nil_from_length}
use Rattle.std.specs.List.{AllByRecursion}
use Rattle.std.specs.Option.{option_map_or}
use Rattle.efi_base.specs.declared.plain.Record.{Record}
use Rattle.wire_l4.specs.Segment.{Segment}
use Rattle.wire_http.specs.Response.{IsWhole}
use Rattle.wire_http.proofs.ResponseLaws.{stays}
use Rattle.tcp_recv.specs.Peer.{IsPart, Heard, IsFrontOf}
use Rattle.tcp_recv.specs.Receiver.{ends_at}
use Rattle.tcp_recv.specs.Stream.{Board, empty, front, after_cut, is_over}
use Rattle.tcp_recv.proofs.Peers.{heard-front}
use Rattle.efi_base.specs.declared.load_end.LoadEnd.{LoadEnd}
use Rattle.efi_base.specs.declared.load_end.LoadEnd.TheVariants.{Success, OutOfTime, NoConnection}
use Rattle.tap_core.specs.Connections.{tap_window, after_segment, after_heard, board_after, is_reset_at}
use Rattle.tap_core.specs.Ends.{MeetsOf, EndsBehind, MeetNothing}
use Rattle.tap_core.specs.Openings.{Opening}
use Rattle.tap_core.specs.Peers.{IsOf, IsHonest, Succeeds}
use Rattle.tap_core.specs.Segments.{is_cut, cut_of}
use Rattle.tap_core.specs.Shows.{Telling, ShowsEnd, ShowsOutOfTime, Shows, HasConnection}
use Rattle.tap_core.proofs.OneEnd.{MeetsAt, success-first, ends-split, nothing-meets}
use Rattle.tap_core.proofs.OneThing.{meets-at, shows-connection}
use Rattle.tap_core.proofs.Splits.{connection-one}
use Rattle.tap_core.proofs.Streams.{after_segment-cut, after_segment-other, board-more}

-- ---- what is kept is of the stream

-- what cuts make of what is kept
abbrev kept-by : ℕ → Board → List Heard → Board
kept-by irs board cuts = fold (λ board h. after_cut irs tap_window h.taken board h.cut) board cuts

-- these cuts are the stream's, and make the same of what is kept
abbrev AreCuts : ℕ → List ℕ → Board → Board → List Heard → Type 0
AreCuts irs stream from to cuts = AllByRecursion (λ h. IsPart irs stream h.cut) cuts × (to ≡ kept-by irs from cuts)

cut-more : (irs : ℕ) (stream : List ℕ) (board to : Board) (s : Segment) (cuts : List Heard) (is : Bool) → is_cut s ≡ is → IsOf irs stream (Some s)
    → AreCuts irs stream (after_segment irs board s) to cuts → (all : List Heard) × AreCuts irs stream board to all
cut-more irs stream board to s cuts true is part more =
    let first : Heard = record { taken = length (front board.kept); cut = cut_of s } in
    (first ∷ cuts, ((part is, more.0), more.1 ∙ ap (λ b. kept-by irs b cuts) (after_segment-cut irs board s is)))
cut-more irs stream board to s cuts false is part more =
    (cuts, (more.0, more.1 ∙ ap (λ b. kept-by irs b cuts) (after_segment-other irs board s is)))

cuts-heard : (irs : ℕ) (stream : List ℕ) (board : Board) (heard : List (Option Segment)) → AllByRecursion (IsOf irs stream) heard
    → (cuts : List Heard) × AreCuts irs stream board (fold (after_heard irs) board heard) cuts
cuts-heard irs stream board [] parts = ([], (tt, refl))
cuts-heard irs stream board (None ∷ heard) parts = cuts-heard irs stream board heard parts.1
cuts-heard irs stream board (Some s ∷ heard) parts =
    let more = cuts-heard irs stream (after_segment irs board s) heard parts.1 in
    cut-more irs stream board (fold (after_heard irs) (after_segment irs board s) heard) s more.0 (is_cut s) refl parts.0 more.1

parts-before : (irs : ℕ) (stream : List ℕ) (before after : List (Option Segment)) → AllByRecursion (IsOf irs stream) (before ++ after)
    → AllByRecursion (IsOf irs stream) before
parts-before irs stream [] after parts = tt
parts-before irs stream (h ∷ before) after parts = (parts.0, parts-before irs stream before after parts.1)

-- what is kept of the first records of those that are heard is of the stream
pub kept-of : (irs : ℕ) (stream : List ℕ) (heard before after : List (Option Segment)) → IsHonest irs stream heard → heard ≡ before ++ after
    → IsFrontOf stream (board_after irs before)
kept-of irs stream heard before after honest e =
    let parts = parts-before irs stream before after (subst (AllByRecursion (IsOf irs stream)) e honest.parts_of_it) in
    let cuts = cuts-heard irs stream empty before parts in
    subst (IsFrontOf stream) (sym cuts.1.1) (heard-front irs tap_window stream cuts.0 (omega (arith, honest.bound)) cuts.1.0)

over-ends : (end : Option ℕ) (n : ℕ) → option_map_or (λ e. e == n) end false ≡ true → IsTrue (ends_at n end)
over-ends None n e = absurd (cc)
over-ends (Some m) n e = e

none-left : (xs rest stream : List ℕ) → stream ≡ xs ++ rest → xs ≡ stream → rest ≡ []
none-left xs rest stream e same = nil_from_length rest (omega (arith, length-append xs rest, ap length e, ap length same))

-- a whole response in what was accepted is the stream's
pub whole-of : (stream : List ℕ) (board : Board) (status : ℕ) (body : List ℕ) → IsFrontOf stream board → IsWhole (front board.kept) (is_over board) status body
    → IsWhole stream true status body
whole-of stream board status body f whole =
    subst (λ l. IsWhole l true status body) (sym f.front_is)
    (stays (front board.kept) f.rest body (is_over board) true status whole
    (λ over. (none-left (front board.kept) f.rest stream f.front_is (f.whole (over-ends board.end (length (front board.kept)) over)), refl)))

-- ---- where it succeeds

append-step : (before after : List (Option Segment)) (last : Option Segment) → before ++ last ∷ after ≡ (before ++ last ∷ []) ++ after
append-step [] after last = refl
append-step (h ∷ before) after last = ap (λ l. h ∷ l) (append-step before after last)

pub body-of : (most irs : ℕ) (stream : List ℕ) (heard : List (Option Segment)) → IsHonest irs stream heard → (s : Succeeds most irs heard) → IsWhole stream true 200 s.body
body-of most irs stream heard honest s =
    whole-of stream (board_after irs (s.before ++ s.last ∷ [])) 200 s.body
    (kept-of irs stream heard (s.before ++ s.last ∷ []) s.after honest (s.parts ∙ append-step s.before s.after s.last)) s.whole

-- the record at which it succeeds meets that case
success-met : (most irs : ℕ) (heard : List (Option Segment)) (s : Succeeds most irs heard)
    → MeetsOf most (after_heard irs (board_after irs s.before) s.last) (is_reset_at irs (board_after irs s.before) s.last) (Success (length s.body))
success-met most irs heard s =
    (s.body, subst (λ (b : Board). IsWhole (front b.kept) (is_over b) 200 s.body) (board-more irs s.before s.last) s.whole, refl, s.fits)

success-at : (most irs : ℕ) (heard : List (Option Segment)) (s : Succeeds most irs heard) → MeetsAt most irs (board_after irs s.before) s.last
success-at most irs heard s = (Success (length s.body), success-met most irs heard s)

succeeds-end : (most irs : ℕ) (heard before : List (Option Segment)) (last : Option Segment) (end : LoadEnd) (s : Succeeds most irs heard)
    → EndsBehind most irs heard before last end → end ≡ Success (length s.body)
succeeds-end most irs heard before last end s e =
    let same = ends-split most irs empty s.before before s.last last s.after e.after s.nothing e.nothing (success-at most irs heard s)
    (meets-at most irs heard before last end e) (sym s.parts ∙ e.parts) in
    let other : EndsBehind most irs heard s.before s.last end =
    subst (λ z. EndsBehind most irs heard s.before z end) (sym same.1) (subst (λ z. EndsBehind most irs heard z last end) (sym same.0) e) in
    success-first most (after_heard irs (board_after irs s.before) s.last) (is_reset_at irs (board_after irs s.before) s.last) (length s.body) end
    (success-met most irs heard s) other.first

end-succeeds : (most irs : ℕ) (heard before : List (Option Segment)) (last : Option Segment) (n : ℕ) → EndsBehind most irs heard before last (Success n)
    → Succeeds most irs heard
end-succeeds most irs heard before last n e =
    let m = e.first.0 in
    record {
      before = before;
      last = last;
      after = e.after;
      parts = e.parts;
      nothing = e.nothing;
      body = m.0;
      whole = subst (λ (b : Board). IsWhole (front b.kept) (is_over b) 200 m.0) (sym (board-more irs before last)) m.1;
      fits = m.3;
    }

late-not : (most irs : ℕ) (heard : List (Option Segment)) → Succeeds most irs heard → MeetNothing most irs empty heard → ⊥
late-not most irs heard s none =
    nothing-meets most irs empty s.before s.last s.after (subst (MeetNothing most irs empty) s.parts none) (success-at most irs heard s)

-- ---- what is shown of the connection

-- what is shown ends on the connection, or the capture ends first
ends-on : (most : ℕ) (records : List Record) (t : Telling) (o : Opening) (irs place : ℕ) (heard : List (Option Segment)) → HasConnection records o irs place heard
    → (a : ShowsEnd most records t) → EndsBehind most irs heard a.before a.last a.end
ends-on most records t o irs place heard c a =
    let same = connection-one records o a.opening irs a.irs place a.place heard a.heard c a.connection in
    subst (λ z. EndsBehind most irs z a.before a.last a.end) (sym same.3) (subst (λ z. EndsBehind most z a.heard a.before a.last a.end) (sym same.1) a.ends)

late-on : (most : ℕ) (records : List Record) (t : Telling) (o : Opening) (irs place : ℕ) (heard : List (Option Segment)) → HasConnection records o irs place heard
    → (a : ShowsOutOfTime most records t) → MeetNothing most irs empty heard
late-on most records t o irs place heard c a =
    let same = connection-one records o a.opening irs a.irs place a.place heard a.heard c a.connection in
    subst (MeetNothing most irs empty) (sym same.3) (subst (λ z. MeetNothing most z empty a.heard) (sym same.1) a.nothing)

success-shown : (most : ℕ) (records : List Record) (t : Telling) (o : Opening) (irs place : ℕ) (heard : List (Option Segment)) → HasConnection records o irs place heard
    → ShowsEnd most records t ⊎ ShowsOutOfTime most records t → (s : Succeeds most irs heard) → t.end ≡ Success (length s.body)
success-shown most records t o irs place heard c (inl a) s =
    ap (λ (u : Telling). u.end) a.told ∙ succeeds-end most irs heard a.before a.last a.end s (ends-on most records t o irs place heard c a)
success-shown most records t o irs place heard c (inr a) s = absurd (late-not most irs heard s (late-on most records t o irs place heard c a))

late-success : (n : ℕ) → OutOfTime ≡ Success n → ⊥
late-success n e = absurd (cc)

shown-success : (most : ℕ) (records : List Record) (t : Telling) (o : Opening) (irs place : ℕ) (heard : List (Option Segment)) → HasConnection records o irs place heard
    → ShowsEnd most records t ⊎ ShowsOutOfTime most records t → (n : ℕ) → t.end ≡ Success n → Succeeds most irs heard
shown-success most records t o irs place heard c (inl a) n e =
    end-succeeds most irs heard a.before a.last n
    (subst (EndsBehind most irs heard a.before a.last) (sym (ap (λ (u : Telling). u.end) a.told) ∙ e) (ends-on most records t o irs place heard c a))
shown-success most records t o irs place heard c (inr a) n e = absurd (late-success n (sym (ap (λ (u : Telling). u.end) a.told) ∙ e))

-- success is shown exactly where it succeeds
pub succeeds-exactly : (most : ℕ) (records : List Record) (t : Telling) (o : Opening) (irs place : ℕ) (heard : List (Option Segment)) → Shows most records t
    → HasConnection records o irs place heard
    → ((s : Succeeds most irs heard) → t.end ≡ Success (length s.body)) × ((n : ℕ) → t.end ≡ Success n → Succeeds most irs heard)
succeeds-exactly most records t o irs place heard shows c =
    let on = shows-connection most records t o irs place heard c shows in
    (success-shown most records t o irs place heard c on, shown-success most records t o irs place heard c on)

board-shown : (most : ℕ) (records : List Record) (t : Telling) (o : Opening) (irs place : ℕ) (stream : List ℕ) (heard : List (Option Segment)) → HasConnection records o irs place heard
    → IsHonest irs stream heard → ShowsEnd most records t ⊎ ShowsOutOfTime most records t → IsFrontOf stream t.board
board-shown most records t o irs place stream heard c honest (inl a) =
    let same = connection-one records o a.opening irs a.irs place a.place heard a.heard c a.connection in
    let ends = ends-on most records t o irs place heard c a in
    let of_it = kept-of irs stream heard (a.before ++ a.last ∷ []) ends.after honest (ends.parts ∙ append-step a.before ends.after a.last) in
    subst (IsFrontOf stream) (ap (λ i. board_after i (a.before ++ a.last ∷ [])) same.1 ∙ sym (ap (λ (u : Telling). u.board) a.told)) of_it
board-shown most records t o irs place stream heard c honest (inr a) =
    let same = connection-one records o a.opening irs a.irs place a.place heard a.heard c a.connection in
    let of_it = kept-of irs stream heard heard [] honest (sym (append-nil heard)) in
    subst (IsFrontOf stream)
    (ap (λ i. board_after i heard) same.1 ∙ ap (board_after a.irs) same.3 ∙ sym (ap (λ (u : Telling). u.board) a.told)) of_it

-- what is told to be kept of an honest peer's stream is of it
pub shown-front : (most : ℕ) (records : List Record) (t : Telling) (o : Opening) (irs place : ℕ) (stream : List ℕ) (heard : List (Option Segment)) → Shows most records t
    → HasConnection records o irs place heard → IsHonest irs stream heard → IsFrontOf stream t.board
shown-front most records t o irs place stream heard shows c honest =
    board-shown most records t o irs place stream heard c honest (shows-connection most records t o irs place heard c shows)

-- and a whole response in it is the stream's
pub shown-whole : (most : ℕ) (records : List Record) (t : Telling) (o : Opening) (irs place : ℕ) (stream : List ℕ) (heard : List (Option Segment)) → Shows most records t
    → HasConnection records o irs place heard → IsHonest irs stream heard → (status : ℕ) (body : List ℕ) → IsWhole (front t.board.kept) (is_over t.board) status body
    → IsWhole stream true status body
shown-whole most records t o irs place stream heard shows c honest status body whole =
    whole-of stream t.board status body (shown-front most records t o irs place stream heard shows c honest) whole

-- ---- the body of a success

success-at-end : (most : ℕ) (records : List Record) (t : Telling) (n : ℕ) → t.end ≡ Success n → ShowsEnd most records t → MeetsOf most t.board false (Success n)
success-at-end most records t n e a =
    let irs = a.irs in
    let board = board_after irs a.before in
    let end : a.end ≡ Success n = sym (ap (λ (u : Telling). u.end) a.told) ∙ e in
    let met : MeetsOf most (after_heard irs board a.last) (is_reset_at irs board a.last) (Success n) =
    subst (MeetsOf most (after_heard irs board a.last) (is_reset_at irs board a.last)) end a.ends.first.0 in
    subst (λ (b : Board). MeetsOf most b false (Success n)) (sym (board-more irs a.before a.last) ∙ sym (ap (λ (u : Telling). u.board) a.told)) met

no-success : (n : ℕ) → NoConnection ≡ Success n → ⊥
no-success n e = absurd (cc)

-- what is told to be kept with a success holds a whole response, whose body has so many octets and fits
pub success-whole : (most : ℕ) (records : List Record) (t : Telling) (n : ℕ) → Shows most records t → t.end ≡ Success n
    → (body : List ℕ) × IsWhole (front t.board.kept) (is_over t.board) 200 body × (n ≡ length body) × (length body ≤ most)
success-whole most records t n (inl a) e = absurd (no-success n (sym (ap (λ (u : Telling). u.end) a.told) ∙ e))
success-whole most records t n (inr (inl a)) e = absurd (no-success n (sym (ap (λ (u : Telling). u.end) a.told) ∙ e))
success-whole most records t n (inr (inr (inl a))) e = success-at-end most records t n e a
success-whole most records t n (inr (inr (inr a))) e = absurd (late-success n (sym (ap (λ (u : Telling). u.end) a.told) ∙ e))
