-- Where a reader stops, and the records in front of that.
use Rattle.std.proofs.Common.{◌≡◌, ◌⊎◌, inl, inr, ℕ, ◌+◌, ◌<◌, ◌≤◌, List, [], ◌∷◌, ◌++◌, length, take, drop, Option, Some, None, Result, Ok, Err, MatchResult, refl, sym, ap, subst, ◌∙◌, arith, append_assoc, length-append, length-drop}
use Rattle.std.specs.List.{flat_map}
use Rattle.std.proofs.lemmas.List.{append-nil, take_at}
use Rattle.efi_base.specs.declared.plain.Record.{Record}
use Rattle.wire_pcap.specs.Grammar.{Order, Big, Little, Form, Stored, record_text, Splits, records_of}
use Rattle.wire_pcap.specs.Place.{NeverCapture, HasNoHeader, HasNoRecord, IsBadPlace}
use Rattle.wire_pcap.specs.Reading.{Reading, IsEarly, IsUnderWay, HasRead, IsWhole, IsLonger, IsNewFault, AreLeft, HasStopped}
use Rattle.wire_pcap.specs.Marks.{HasMarks}
use Rattle.wire_pcap.specs.Next.{IsCause, IsOver, MadeReady, StopsFrom}
use Rattle.wire_pcap.specs.Stands.{GoesOn, GoesOnTo, ReadsFrom, Stops}
use Rattle.wire_pcap.specs.Steps.{new_clock, kept_at, clock_after_all, made_from}
use Rattle.wire_pcap.specs.declared.clock.Clock.{Clock}
use Rattle.wire_pcap.specs.declared.fault.CapFault.{CapFault}
use Rattle.wire_pcap.specs.declared.fault.CapFault.TheVariants.{BadAt, OutOfResources}
use Rattle.wire_pcap.specs.declared.records.Progress.{Progress}
use Rattle.wire_pcap.specs.declared.stage.Stage.{Stage}
use Rattle.wire_pcap.specs.declared.stage.Reached.{Reached}
use Rattle.wire_pcap.proofs.Moments.{records_of-append}
use Rattle.wire_pcap.proofs.Headers.{header_of, no_header}
use Rattle.wire_pcap.proofs.Splitting.{splits_more, splits_on, never_capture, over_has_none, the_place}
use Rattle.wire_pcap.proofs.Standing.{at_header, none_some, some_is}

none_kept : (order : Order) → 262144 < kept_at order [] → ⊥
none_kept Big over = omega (arith, over)
none_kept Little over = omega (arith, over)

over_some : (order : Order) (rest : List ℕ) → IsOver order rest → 0 < length rest
over_some order [] over = absurd (none_kept order over)
over_some order (x ∷ rest) over = omega arith

-- what stands in front of the rest behind records is a capture of them
whole_front : (form : Form) (bytes : List ℕ) (records : List Stored) (rest : List ℕ) (n : ℕ) (given ready : List Record)
    → Splits form bytes records rest → n + length rest ≡ length bytes → given ++ ready ≡ records_of form.resolution records
    → IsWhole (take n bytes) given ready
whole_front form bytes records rest n given ready s p r =
    let text = flat_map (record_text form.order) records in
    let front = s.header ++ text in
    let whole : bytes ≡ front ++ rest = s.text ∙ sym (append_assoc s.header text rest) in
    let long : length front ≡ n = omega (arith, ap length whole, length-append front rest, p) in
    let cut : take n bytes ≡ front = ap (take n) whole ∙ take_at front rest n long in
    record {
      form = form;
      records = records;
      capture = record {
        header = s.header;
        is_header = s.is_header;
        each = s.each;
        text = cut ∙ ap (λ (t : List ℕ). s.header ++ t) (sym (append-nil text));
      };
      records_are = r;
    }

-- why reading stopped in octets, and which records are left
record IsStop (fed : List ℕ) (e : CapFault) (given ready : List Record) : Type 0 where
  cause : IsNewFault fed e
  left : AreLeft fed e given ready

-- a bad record behind whole ones
over_place : (form : Form) (fed : List ℕ) (records : List Stored) (rest : List ℕ) (n : ℕ) → Splits form fed records rest
    → IsOver form.order rest → n + length rest ≡ length fed → IsBadPlace fed n × NeverCapture fed
over_place form fed records rest n s over p =
    let none = over_has_none form.order rest over in
    let some : 0 < length rest = over_some form.order rest over in
    let P : List ℕ → Type 0 = λ t. HasNoRecord form.order t in (
      inr (record {
        form = form;
        records = records;
        rest = rest;
        splits = s;
        some = some;
        none = subst P (append-nil rest) (none []);
        place = p;
      }),
      never_capture form fed records rest s some none,
    )

stop_at : (form : Form) (fed : List ℕ) (records : List Stored) (bytes : List ℕ) (others at : ℕ) (e : CapFault) (given after : List Record)
    → Splits form fed records (drop at bytes) → (others + at) + length (drop at bytes) ≡ length fed
    → given ++ after ≡ records_of form.resolution records → IsCause form.order bytes others at e → IsStop fed e given after
stop_at form fed records bytes others at OutOfResources given after s p r c = record {
  cause = tt;
  left = record {
    place = others + at;
    within = omega (arith, p);
    in_front = inl (whole_front form fed records (drop at bytes) (others + at) given after s p r);
  };
}
stop_at form fed records bytes others at (BadAt n) given after s p r c =
    let there : n + length (drop at bytes) ≡ length fed = omega (arith, p, c.0) in
    let bad = over_place form fed records (drop at bytes) n s c.1 there in
    record {
      cause = (the_place fed n bad.0, bad.1);
      left = inl (whole_front form fed records (drop at bytes) n given after s there r);
    }

-- reading stopped behind records that were read before
stop_behind : (form : Form) (fed : List ℕ) (given before after : List Record) (records : List Stored) (bytes : List ℕ) (start : ℕ)
    (from : Stage) (e : CapFault) → Splits form fed records (drop start bytes) → given ++ before ≡ records_of form.resolution records
    → from.place + length bytes ≡ length fed → from.clock ≡ clock_after_all form.resolution new_clock records
    → StopsFrom form bytes from.place (record { at = start; clock = from.clock }) e before after
    → IsStop fed e given after
stop_behind form fed given before after records bytes start from e s r p c d =
    let m = d.made in
    let res = form.resolution in
    let made = made_from res from.clock m.records in
    let here : made ≡ made_from res (clock_after_all res new_clock records) m.records =
    ap (λ (k : Clock). made_from res k m.records) c in
    let within : d.to.at ≤ length bytes = m.within in
    stop_at form fed (records ++ m.records) bytes from.place d.to.at e given after
    (splits_on form fed records m.records (drop start bytes) (drop d.to.at bytes) s m.each m.text)
    (omega (arith, p, length-drop d.to.at bytes, within))
    (ap (λ (t : List Record). given ++ t) m.ready ∙ sym (append_assoc given before made)
    ∙ ap (λ (t : List Record). t ++ made) r ∙ ap (λ (t : List Record). records_of res records ++ t) here
    ∙ sym (records_of-append res records m.records))
    d.cause

-- a header that isn't one doesn't become one
wrong_header : (bytes : List ℕ) → ((form : Form) (more : List ℕ) → HasNoHeader form (bytes ++ more)) → NeverCapture bytes
wrong_header bytes none c = none c.form c.more c.capture.header _ c.capture.is_header c.capture.text

wrong_marks : (bytes : List ℕ) → ((form : Form) → HasMarks form bytes → ⊥) → IsBadPlace bytes 0 × NeverCapture bytes
wrong_marks bytes wrong =
    let all : (form : Form) (more : List ℕ) → HasNoHeader form (bytes ++ more) = λ form more. no_header form bytes more (wrong form) in
    let here : (form : Form) → HasNoHeader form bytes =
    λ form. subst (λ (t : List ℕ). HasNoHeader form t) (append-nil bytes) (all form []) in
    (inl (refl, here), wrong_header bytes all)

no_records : (given before after : List Record) → given ≡ [] → before ≡ [] → after ≡ before → given ++ after ≡ []
no_records given before after none none_ready same =
    ap (λ (t : List Record). t ++ after) none ∙ same ∙ none_ready

stop_from : (fed : List ℕ) (given : List Record) (r : Reading) (piece : List ℕ) (e : CapFault) (after : List Record)
    → IsEarly fed given r ⊎ IsUnderWay fed given r → Stops (r.rest ++ piece) r.stage e r.ready after
    → IsStop (fed ++ piece) e given after
stop_from fed given r piece e after (inl a) (inl w) =
    let same : r.rest ++ piece ≡ fed ++ piece = ap (λ (t : List ℕ). t ++ piece) a.rest_is in
    let P : List ℕ → Type 0 = λ t. IsBadPlace t 0 × NeverCapture t in
    let bad = subst P same (wrong_marks (r.rest ++ piece) w.wrong) in
    let Q : CapFault → Type 0 = λ f. IsStop (fed ++ piece) f given after in
    subst Q (sym w.told) (record {
      cause = (the_place (fed ++ piece) 0 bad.0, bad.1);
      left = inr (refl, no_records given r.ready after a.none_given a.none_ready w.same);
    })
stop_from fed given r piece e after (inl a) (inr (inl h)) =
    let bytes = r.rest ++ piece in
    let same : bytes ≡ fed ++ piece = ap (λ (t : List ℕ). t ++ piece) a.rest_is in
    let place : r.stage.place ≡ 0 = ap (λ (s : Stage). s.place) a.stage_is in
    stop_behind h.form (fed ++ piece) given r.ready after [] bytes 24 r.stage e
    (subst (λ (t : List ℕ). Splits h.form t [] (drop 24 bytes)) same (at_header h.form bytes h.whole h.header))
    (ap (λ (t : List Record). t ++ r.ready) a.none_given ∙ a.none_ready) (omega (arith, place, ap length same))
    (ap (λ (s : Stage). s.clock) a.stage_is) h.stops
stop_from fed given r piece e after (inl a) (inr (inr (inl m))) =
    absurd (none_some m.form r.stage.form (ap (λ (s : Stage). s.form) a.stage_is) m.known)
stop_from fed given r piece e after (inl a) (inr (inr (inr n))) =
    let Q : CapFault → Type 0 = λ f. IsStop (fed ++ piece) f given after in
    subst Q (sym n.told) (record {
      cause = tt;
      left = record {
        place = 0;
        within = omega arith;
        in_front = inr (refl, no_records given r.ready after a.none_given a.none_ready n.same);
      };
    })
stop_from fed given r piece e after (inr u) (inl w) = absurd (none_some u.form r.stage.form w.early u.form_is)
stop_from fed given r piece e after (inr u) (inr (inl h)) = absurd (none_some u.form r.stage.form h.early u.form_is)
stop_from fed given r piece e after (inr u) (inr (inr (inl m))) =
    let bytes = r.rest ++ piece in
    let same : m.form ≡ u.form = some_is m.form u.form (sym m.known ∙ u.form_is) in
    let P : Form → Type 0 = λ f. StopsFrom f bytes r.stage.place (record { at = 0; clock = r.stage.clock }) e r.ready after in
    stop_behind u.form (fed ++ piece) given r.ready after u.records bytes 0 r.stage e
    (splits_more u.form fed u.records r.rest piece u.splits) u.records_are
    (omega (arith, u.place_is, length-append r.rest piece, length-append fed piece)) u.clock_is (subst P same m.stops)
stop_from fed given r piece e after (inr u) (inr (inr (inr n))) =
    let Q : CapFault → Type 0 = λ f. IsStop (fed ++ piece) f given after in
    let place : r.stage.place + length (r.rest ++ piece) ≡ length (fed ++ piece) =
    omega (arith, u.place_is, length-append r.rest piece, length-append fed piece) in
    subst Q (sym n.told) (record {
      cause = tt;
      left = record {
        place = r.stage.place;
        within = omega (arith, place);
        in_front = inl (whole_front u.form (fed ++ piece) u.records (r.rest ++ piece) r.stage.place given after
            (splits_more u.form fed u.records r.rest piece u.splits) place
            (ap (λ (t : List Record). given ++ t) n.same ∙ u.records_are));
      };
    })

-- a fault that is told newly has its cause
pub cause_of : (fed : List ℕ) (given : List Record) (r : Reading) (piece : List ℕ) (e : CapFault) (after : List Record) → HasRead fed given r
    → Stops (r.rest ++ piece) r.stage e r.ready after → IsNewFault (fed ++ piece) e
cause_of fed given r piece e after h s = (stop_from fed given r piece e after h.1 s).cause

-- and the reader has stopped
pub has_stopped : (fed : List ℕ) (given : List Record) (r : Reading) (piece : List ℕ) (e : CapFault) (after : List Record) (stage : Stage)
    (rest : List ℕ) (fault : Option CapFault) → HasRead fed given r → Stops (r.rest ++ piece) r.stage e r.ready after
    → rest ≡ [] → fault ≡ Some e → HasStopped (fed ++ piece) given (record { stage = stage; rest = rest; ready = after; fault = fault }) e
has_stopped fed given r piece e after stage rest fault h s empty told =
    let stop = stop_from fed given r piece e after h.1 s in
    record { told = told; cause = stop.cause; none_kept = empty; left = stop.left }

-- the place of a bad record among all octets
cause_from : (order : Order) (bytes : List ℕ) (others at n : ℕ) → IsCause order bytes 0 at (BadAt n)
    → IsCause order bytes others at (BadAt (others + n))
cause_from order bytes others at n c = (omega (arith, c.0), c.1)

pub stops_from : (form : Form) (bytes : List ℕ) (others n : ℕ) (from : Progress) (before after : List Record)
    → StopsFrom form bytes 0 from (BadAt n) before after → StopsFrom form bytes others from (BadAt (others + n)) before after
stops_from form bytes others n from before after s =
    record { to = s.to; made = s.made; cause = cause_from form.order bytes others s.to.at n s.cause }

-- it stands within the octets
pub stop_within : (form : Form) (bytes : List ℕ) (n : ℕ) (from : Progress) (before after : List Record)
    → StopsFrom form bytes 0 from (BadAt n) before after → n ≤ length bytes
stop_within form bytes n from before after s =
    let within : s.to.at ≤ length bytes = s.made.within in
    omega (arith, s.cause.0, within)

-- over the header, and over the records behind it
pub over_header : (form : Form) (bytes : List ℕ) (from : Stage) (before after : List Record) (res : Result Reached CapFault)
    → from.form ≡ None → HasMarks form bytes → 24 ≤ length bytes
    → MatchResult res (λ to. ReadsFrom form bytes 24 from to before after)
    (λ e. StopsFrom form bytes from.place (record { at = 24; clock = from.clock }) e before after)
    → MatchResult res (λ to. GoesOn bytes from to before after) (λ e. Stops bytes from e before after)
over_header form bytes from before after (Ok to) early marks long r =
    inr (inl (record { early = early; form = form; whole = long; header = header_of form bytes long marks; reads = r }))
over_header form bytes from before after (Err e) early marks long r =
    inr (inl (record { early = early; form = form; whole = long; header = header_of form bytes long marks; stops = r }))

-- records that are ready stay
from_more : (form : Form) (bytes : List ℕ) (from to : Progress) (before after : List Record) → MadeReady form bytes from to before after
    → IsLonger before after
from_more form bytes from to before after m = record { more = made_from form.resolution from.clock m.records; longer = m.ready }

pub same_longer : (before after : List Record) → after ≡ before → IsLonger before after
same_longer before after e = record { more = []; longer = e ∙ sym (append-nil before) }

goes_on_longer : (bytes : List ℕ) (from : Stage) (to : Reached) (before after : List Record) → GoesOn bytes from to before after
    → IsLonger before after
goes_on_longer bytes from to before after (inl w) = same_longer before after w.same
goes_on_longer bytes from to before after (inr (inl h)) = from_more h.form bytes _ _ before after h.reads.made
goes_on_longer bytes from to before after (inr (inr m)) = from_more m.form bytes _ _ before after m.reads.made

pub read_longer : (bytes : List ℕ) (from to : Stage) (left : List ℕ) (before after : List Record) → GoesOnTo bytes from to left before after
    → IsLonger before after
read_longer bytes from to left before after g = goes_on_longer bytes from (record { stage = to; at = g.at }) before after g.goes_on

pub stops_longer : (bytes : List ℕ) (from : Stage) (e : CapFault) (before after : List Record) → Stops bytes from e before after
    → IsLonger before after
stops_longer bytes from e before after (inl w) = same_longer before after w.same
stops_longer bytes from e before after (inr (inl h)) = from_more h.form bytes _ _ before after h.stops.made
stops_longer bytes from e before after (inr (inr (inl m))) = from_more m.form bytes _ _ before after m.stops.made
stops_longer bytes from e before after (inr (inr (inr n))) = same_longer before after n.same
