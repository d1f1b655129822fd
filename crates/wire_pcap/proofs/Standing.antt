-- Where a reader stands after each step.
use Rattle.std.proofs.Common.{rules, ◌≡◌, ◌⊎◌, inl, inr, ℕ, ◌+◌, ◌<◌, ◌≤◌, List, [], ◌∷◌, ◌++◌, length, take, drop, Option, Some, None, refl, sym, ap, subst, ◌∙◌, arith, append_assoc, length-append, length-drop}
use Rattle.std.specs.List.{flat_map}
use Rattle.std.proofs.lemmas.List.{drop-drop, append-nil, take-append-drop}
use Rattle.std.proofs.lemmas.Grind.{flat_map-append}
use Rattle.efi_base.specs.declared.plain.Record.{Record}
use Rattle.wire_pcap.specs.Grammar.{Form, little_micros, IsHeader, Stored, record_text, Splits, time_of, records_of}
use Rattle.wire_pcap.specs.Place.{IsCaptureFront}
use Rattle.wire_pcap.specs.Reading.{Reading, new_stage, IsHeaderFront, IsEarly, IsUnderWay, HasRead, IsUnfinished}
use Rattle.wire_pcap.specs.Next.{IsHead, MadeReady}
use Rattle.wire_pcap.specs.Stands.{ReadsFrom, GoesOn, GoesOnTo}
use Rattle.wire_pcap.specs.Steps.{new_clock, kept_at, record_at, clock_at, clock_after_all, made_from}
use Rattle.wire_pcap.specs.declared.clock.Clock.{Clock}
use Rattle.wire_pcap.specs.declared.fault.CapFault.{CapFault}
use Rattle.wire_pcap.specs.declared.fault.CapFault.TheVariants.{BadAt}
use Rattle.wire_pcap.specs.declared.head.Head.{Head}
use Rattle.wire_pcap.specs.declared.records.Progress.{Progress}
use Rattle.wire_pcap.specs.declared.stage.Stage.{Stage}
use Rattle.wire_pcap.specs.declared.stage.Reached.{Reached}
use Rattle.wire_pcap.proofs.Numbers.{IsOctets, octets-drop}
use Rattle.wire_pcap.proofs.Texts.{text-record_at, stored_at}
use Rattle.wire_pcap.proofs.Moments.{clock_after_all-append, records_of-append, made_from-append}
use Rattle.wire_pcap.proofs.Headers.{front_of_marks}
use Rattle.wire_pcap.specs.Written.{header_text}
use Rattle.wire_pcap.proofs.Writing.{header_is}
use Rattle.wire_pcap.proofs.Splitting.{each-append, no_capture, splits_more, splits_on, partial_has_none, partial_few, partial_goes_on, header_goes_on, the_place}

abbrev made_record : ℕ → List ℕ → Record
made_record tick frame = record { tick = record { 0 = tick }; frame = frame }

-- a record more was made
pub made_more : (form : Form) (bytes : List ℕ) (from : Progress) (at : ℕ) (clock next : Clock) (before mid after : List Record) (head : Head)
    → IsOctets bytes → MadeReady form bytes from (record { at = at; clock = clock }) before mid → IsHead form (drop at bytes) head
    → next ≡ clock_at form.resolution clock head.time
    → after ≡ mid ++ record { tick = record { 0 = next.tick }; frame = take head.kept (drop 16 (drop at bytes)) } ∷ []
    → MadeReady form bytes from (record { at = at + (16 + head.kept); clock = next }) before after
made_more form bytes from at clock next before mid after head octets m h next_is after_is =
    let rest = drop at bytes in
    let r = record_at form.order rest in
    let kept : head.kept ≡ kept_at form.order rest = h.kept in
    let few : kept_at form.order rest ≤ 262144 = omega (arith, h.few, kept) in
    let there : 16 + kept_at form.order rest ≤ length rest = omega (arith, h.whole, kept) in
    let rest_octets = octets-drop at bytes octets in
    let f = record_text form.order in
    let long = length-drop at bytes in
    let text : rest ≡ f r ++ drop (at + (16 + head.kept)) bytes =
    text-record_at form.order rest rest_octets there
    ∙ ap (λ (k : ℕ). f r ++ drop (16 + k) rest) (sym kept)
    ∙ ap (λ (t : List ℕ). f r ++ t) (drop-drop (16 + head.kept) at bytes) in
    let frame : take head.kept (drop 16 rest) ≡ r.frame = ap (λ (k : ℕ). take k (drop 16 rest)) kept in
    let clock_is : next ≡ clock_at form.resolution clock (time_of form.resolution r) = next_is ∙ ap (clock_at form.resolution clock) h.time in
    let made = made_from-append form.resolution from.clock m.records (r ∷ []) in
    let clocks = clock_after_all-append form.resolution from.clock m.records (r ∷ []) in
    let was : clock ≡ clock_after_all form.resolution from.clock m.records = m.clock in
    let now : next ≡ clock_at form.resolution (clock_after_all form.resolution from.clock m.records) (time_of form.resolution r) =
    clock_is ∙ ap (λ (c : Clock). clock_at form.resolution c (time_of form.resolution r)) was in
    let made_clock = clock_at form.resolution (clock_after_all form.resolution from.clock m.records) (time_of form.resolution r) in
    let item : made_record next.tick (take head.kept (drop 16 rest)) ≡ made_record made_clock.tick r.frame =
    ap (λ (c : Clock). made_record c.tick (take head.kept (drop 16 rest))) now
    ∙ ap (λ (t : List ℕ). made_record made_clock.tick t) frame in
    record {
      records = m.records ++ r ∷ [];
      each = each-append m.records (r ∷ []) m.each (stored_at form.order rest rest_octets there few, tt);
      onward = omega (arith, m.onward);
      within = omega (arith, m.within, there, long, kept);
      text = m.text ∙ ap (λ (t : List ℕ). flat_map f m.records ++ t) text
          ∙ sym (append_assoc (flat_map f m.records) (f r) (drop (at + (16 + head.kept)) bytes))
          ∙ ap (λ (t : List ℕ). (flat_map f m.records ++ t) ++ drop (at + (16 + head.kept)) bytes) (sym (append-nil (f r)))
          ∙ ap (λ (t : List ℕ). t ++ drop (at + (16 + head.kept)) bytes) (sym (flat_map-append f m.records (r ∷ [])));
      clock = now ∙ sym clocks;
      ready = after_is ∙ ap (λ (x : Record). mid ++ x ∷ []) item
          ∙ ap (λ (t : List Record). t ++ made_record made_clock.tick r.frame ∷ []) m.ready
          ∙ append_assoc before (made_from form.resolution from.clock m.records) (made_record made_clock.tick r.frame ∷ [])
          ∙ ap (λ (t : List Record). before ++ t) (sym made);
    }

-- the same, of octets that are those at the place
pub made_more_at : (form : Form) (bytes : List ℕ) (from : Progress) (at : ℕ) (clock next : Clock) (before mid after : List Record) (head : Head)
    → IsOctets bytes → MadeReady form bytes from (record { at = at; clock = clock }) before mid → (rest : List ℕ) → rest ≡ drop at bytes → IsHead form rest head
    → next ≡ clock_at form.resolution clock head.time
    → after ≡ mid ++ record { tick = record { 0 = next.tick }; frame = take head.kept (drop 16 rest) } ∷ []
    → MadeReady form bytes from (record { at = at + (16 + head.kept); clock = next }) before after
made_more_at form bytes from at clock next before mid after head octets m rest e h next_is after_is =
    let P : List ℕ → Type 0 = λ t. IsHead form t head in
    made_more form bytes from at clock next before mid after head octets m (subst P e h) next_is
    (after_is ∙ ap (λ (t : List ℕ). mid ++ made_record next.tick (take head.kept (drop 16 t)) ∷ []) e)

-- behind the header alone
pub at_header : (form : Form) (bytes : List ℕ) → 24 ≤ length bytes → IsHeader form (take 24 bytes)
    → Splits form bytes [] (drop 24 bytes)
at_header form bytes long h =
    record { header = take 24 bytes; is_header = h; each = tt; text = sym (take-append-drop 24 bytes) }

abbrev after_reading : Reached → List ℕ → List Record → Option CapFault → Reading
after_reading to bytes after fault = record { stage = to.stage; rest = drop to.at bytes; ready = after; fault = fault }

-- a reader that read on behind records
read_behind : (form : Form) (fed : List ℕ) (given before after : List Record) (records : List Stored) (bytes : List ℕ) (start : ℕ)
    (from : Stage) (to : Reached) (fault : Option CapFault) → Splits form fed records (drop start bytes) → given ++ before ≡ records_of form.resolution records
    → from.place + length bytes ≡ length fed → from.clock ≡ clock_after_all form.resolution new_clock records
    → ReadsFrom form bytes start from to before after
    → IsUnderWay fed given (after_reading to bytes after fault)
read_behind form fed given before after records bytes start from to fault s r p c d =
    let m = d.made in
    let res = form.resolution in
    let made = made_from res from.clock m.records in
    let here : made ≡ made_from res (clock_after_all res new_clock records) m.records =
    ap (λ (k : Clock). made_from res k m.records) c in
    let within : to.at ≤ length bytes = m.within in
    record {
      form = form;
      records = records ++ m.records;
      splits = splits_on form fed records m.records (drop start bytes) (drop to.at bytes) s m.each m.text;
      partial = d.partial;
      records_are = ap (λ (t : List Record). given ++ t) m.ready ∙ sym (append_assoc given before made)
          ∙ ap (λ (t : List Record). t ++ made) r ∙ ap (λ (t : List Record). records_of res records ++ t) here
          ∙ sym (records_of-append res records m.records);
      form_is = d.form_is;
      place_is = omega (arith, d.place_is, p, length-drop to.at bytes, within);
      clock_is = m.clock ∙ ap (λ (k : Clock). clock_after_all res k m.records) c
          ∙ sym (clock_after_all-append res new_clock records m.records);
    }

pub some_is : (f g : Form) → Some f ≡ Some g → f ≡ g
some_is f g e = cc

pub none_some : (f : Form) (o : Option Form) → o ≡ None → o ≡ Some f → ⊥
none_some f o a b = absurd (let e : None ≡ Some f = sym a ∙ b in search (rules, e))

-- a reader that went on has read all that was fed
reads_on : (fed : List ℕ) (given : List Record) (r : Reading) (piece : List ℕ) (to : Reached) (after : List Record) (fault : Option CapFault)
    → IsEarly fed given r ⊎ IsUnderWay fed given r → GoesOn (r.rest ++ piece) r.stage to r.ready after
    → IsEarly (fed ++ piece) given (after_reading to (r.rest ++ piece) after fault)
    ⊎ IsUnderWay (fed ++ piece) given (after_reading to (r.rest ++ piece) after fault)
reads_on fed given r piece to after fault (inl e) (inl w) =
    let bytes : r.rest ++ piece ≡ fed ++ piece = ap (λ (t : List ℕ). t ++ piece) e.rest_is in
    let at : to.at ≡ 0 = ap (λ (x : Reached). x.at) w.still in
    inl (record {
      form = w.form;
      front = subst (λ (t : List ℕ). IsHeaderFront w.form t) bytes (front_of_marks w.form (r.rest ++ piece) w.short w.marks);
      none_given = e.none_given;
      none_ready = w.same ∙ e.none_ready;
      rest_is = ap (λ (n : ℕ). drop n (r.rest ++ piece)) at ∙ bytes;
      stage_is = ap (λ (x : Reached). x.stage) w.still ∙ e.stage_is;
    })
reads_on fed given r piece to after fault (inl e) (inr (inl h)) =
    let bytes = r.rest ++ piece in
    let same : bytes ≡ fed ++ piece = ap (λ (t : List ℕ). t ++ piece) e.rest_is in
    let place : r.stage.place ≡ 0 = ap (λ (s : Stage). s.place) e.stage_is in
    inr (read_behind h.form (fed ++ piece) given r.ready after [] bytes 24 r.stage to fault
    (subst (λ (t : List ℕ). Splits h.form t [] (drop 24 bytes)) same (at_header h.form bytes h.whole h.header))
    (ap (λ (t : List Record). t ++ r.ready) e.none_given ∙ e.none_ready) (omega (arith, place, ap length same))
    (ap (λ (s : Stage). s.clock) e.stage_is) h.reads)
reads_on fed given r piece to after fault (inl e) (inr (inr m)) =
    absurd (none_some m.form r.stage.form (ap (λ (s : Stage). s.form) e.stage_is) m.known)
reads_on fed given r piece to after fault (inr u) (inl w) = absurd (none_some u.form r.stage.form w.early u.form_is)
reads_on fed given r piece to after fault (inr u) (inr (inl h)) = absurd (none_some u.form r.stage.form h.early u.form_is)
reads_on fed given r piece to after fault (inr u) (inr (inr m)) =
    let bytes = r.rest ++ piece in
    let same : m.form ≡ u.form = some_is m.form u.form (sym m.known ∙ u.form_is) in
    let reads : ReadsFrom u.form bytes 0 r.stage to r.ready after = subst (λ (f : Form). ReadsFrom f bytes 0 r.stage to r.ready after) same m.reads in
    inr (read_behind u.form (fed ++ piece) given r.ready after u.records bytes 0 r.stage to fault
    (splits_more u.form fed u.records r.rest piece u.splits) u.records_are
    (omega (arith, u.place_is, length-append r.rest piece, length-append fed piece)) u.clock_is reads)

pub has_read_on : (fed : List ℕ) (given : List Record) (r : Reading) (piece : List ℕ) (to : Stage) (left : List ℕ) (after : List Record)
    (fault : Option CapFault) → fault ≡ None → HasRead fed given r → GoesOnTo (r.rest ++ piece) r.stage to left r.ready after
    → HasRead (fed ++ piece) given (record { stage = to; rest = left; ready = after; fault = fault })
has_read_on fed given r piece to left after fault none h g =
    let P : List ℕ → Type 0 = λ t. HasRead (fed ++ piece) given (record { stage = to; rest = t; ready = after; fault = fault }) in
    subst P (sym g.left_is) (none, reads_on fed given r piece (record { stage = to; at = g.at }) after fault h.1 g.goes_on)

-- what was fed to a reader without a fault goes on to a capture
goes_on_from : (fed : List ℕ) (given : List Record) (r : Reading) → IsEarly fed given r ⊎ IsUnderWay fed given r → IsCaptureFront fed
goes_on_from fed given r (inl e) = header_goes_on e.form fed e.front
goes_on_from fed given r (inr u) = partial_goes_on u.form fed u.records r.rest u.splits u.partial

pub capture_front : (fed : List ℕ) (given : List Record) (r : Reading) → HasRead fed given r → IsCaptureFront fed
capture_front fed given r h = goes_on_from fed given r h.1

-- it keeps little of what was fed
goes_on_few : (bytes : List ℕ) (from : Stage) (to : Reached) (before after : List Record) → GoesOn bytes from to before after
    → length (drop to.at bytes) < 262160
goes_on_few bytes from to before after (inl w) = omega (arith, w.short, length-drop to.at bytes)
goes_on_few bytes from to before after (inr (inl h)) = partial_few h.form.order (drop to.at bytes) h.reads.partial
goes_on_few bytes from to before after (inr (inr m)) = partial_few m.form.order (drop to.at bytes) m.reads.partial

pub few_left : (bytes : List ℕ) (from to : Stage) (left : List ℕ) (before after : List Record) → GoesOnTo bytes from to left before after
    → length left < 262160
few_left bytes from to left before after g =
    omega (arith, ap length g.left_is, goes_on_few bytes from (record { stage = to; at = g.at }) before after g.goes_on)

-- nothing was fed
pub has_read_none : (r : Reading) → r.fault ≡ None → r.stage ≡ new_stage → r.rest ≡ [] → r.ready ≡ [] → HasRead [] [] r
has_read_none r none new empty no_ready = (
  none,
  inl (record {
    form = little_micros;
    front = record { more = header_text; short = omega arith; header = header_is };
    none_given = refl;
    none_ready = no_ready;
    rest_is = empty;
    stage_is = new;
  }),
)

-- the end comes within a record
late_unfinished : (fed : List ℕ) (given : List Record) (r : Reading) → IsEarly fed given r ⊎ IsUnderWay fed given r
    → (r.stage.form ≡ None → ⊥) → 0 < length r.rest → IsUnfinished fed (BadAt r.stage.place)
late_unfinished fed given r (inl e) known some = absurd (known (ap (λ (s : Stage). s.form) e.stage_is))
late_unfinished fed given r (inr u) known some =
    let none = partial_has_none u.form.order r.rest u.partial in
    record {
      place = r.stage.place;
      told = refl;
      bad = the_place fed r.stage.place (inr (record {
        form = u.form;
        records = u.records;
        rest = r.rest;
        splits = u.splits;
        some = some;
        none = none;
        place = u.place_is;
      }));
      none = no_capture u.form fed u.records r.rest u.splits some none;
    }

pub unfinished_late : (fed : List ℕ) (given : List Record) (r : Reading) → HasRead fed given r → (r.stage.form ≡ None → ⊥)
    → 0 < length r.rest → IsUnfinished fed (BadAt r.stage.place)
unfinished_late fed given r h known some = late_unfinished fed given r h.1 known some
