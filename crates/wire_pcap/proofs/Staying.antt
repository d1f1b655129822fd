-- What a bad place stays, whatever follows.
use Rattle.std.proofs.Common.{◌≡◌, ◌⊎◌, inl, inr, ℕ, ◌≤◌, List, [], ◌∷◌, ◌++◌, length, refl, sym, ap, subst, ◌∙◌, arith, append_assoc, length-append}
use Rattle.std.proofs.lemmas.List.{append-nil, take-append-le}
use Rattle.efi_base.specs.declared.plain.Record.{Record}
use Rattle.wire_pcap.specs.Grammar.{Form, IsHeader, Stored, IsStored, record_text, Splits, IsCapture}
use Rattle.wire_pcap.specs.Place.{NeverCapture, HasNoHeader, HasNoRecord, IsBadPlace, IsThePlace}
use Rattle.wire_pcap.specs.Reading.{Reading, IsWhole, IsNewFault, AreInFront, AreLeft, HasStopped}
use Rattle.wire_pcap.specs.declared.fault.CapFault.{CapFault}
use Rattle.wire_pcap.specs.declared.fault.CapFault.TheVariants.{BadAt, OutOfResources}
use Rattle.wire_pcap.proofs.Splitting.{splits_more, splits_on, the_place}

-- the list c begins with a, and goes on with the front of b
record Longer (a b c d : List ℕ) : Type 0 where
  mid : List ℕ
  longer : c ≡ a ++ mid
  behind : b ≡ mid ++ d

tails : (x y : ℕ) (a c : List ℕ) → x ∷ a ≡ y ∷ c → a ≡ c
tails x y a c e = cc

heads : (x y : ℕ) (a c : List ℕ) → x ∷ a ≡ y ∷ c → x ≡ y
heads x y a c e = cc

one_longer : (x y : ℕ) (a b c d : List ℕ) → x ≡ y → Longer a b c d → Longer (x ∷ a) b (y ∷ c) d
one_longer x y a b c d e l = record {
  mid = l.mid;
  longer = ap (λ (h : ℕ). h ∷ c) (sym e) ∙ ap (λ (t : List ℕ). x ∷ t) l.longer;
  behind = l.behind;
}

both_longer : (x y : ℕ) (a b c d : List ℕ) → x ≡ y → Longer a b c d ⊎ Longer c d a b
    → Longer (x ∷ a) b (y ∷ c) d ⊎ Longer (y ∷ c) d (x ∷ a) b
both_longer x y a b c d e (inl l) = inl (one_longer x y a b c d e l)
both_longer x y a b c d e (inr l) = inr (one_longer y x c d a b (sym e) l)

-- of two ways to cut a list, one cuts behind the other
cuts : (a b c d : List ℕ) → a ++ b ≡ c ++ d → Longer a b c d ⊎ Longer c d a b
cuts [] b c d e = inl (record { mid = c; longer = refl; behind = e })
cuts (x ∷ a) b [] d e = inr (record { mid = x ∷ a; longer = refl; behind = sym e })
cuts (x ∷ a) b (y ∷ c) d e =
    both_longer x y a b c d (heads x y (a ++ b) (c ++ d) e) (cuts a b c d (tails x y (a ++ b) (c ++ d) e))

header_cut : (bytes more header rest : List ℕ) (form : Form) → NeverCapture bytes → HasNoHeader form bytes → IsHeader form header
    → Longer bytes more header rest ⊎ Longer header rest bytes more → ⊥
header_cut bytes more header rest form never none is (inl l) = never (record {
  form = form;
  more = l.mid;
  records = [];
  capture = record { header = header; is_header = is; each = tt; text = sym l.longer ∙ sym (append-nil header) };
})
header_cut bytes more header rest form never none is (inr l) = none header l.mid is l.longer

header_stays : (bytes more : List ℕ) (form : Form) → NeverCapture bytes → HasNoHeader form bytes → HasNoHeader form (bytes ++ more)
header_stays bytes more form never none header rest is e =
    header_cut bytes more header rest form never none is (cuts bytes more header rest e)

record_cut : (bytes more : List ℕ) (form : Form) (records : List Stored) (rest : List ℕ) (r : Stored) (behind : List ℕ)
    → NeverCapture bytes → Splits form bytes records rest → HasNoRecord form.order rest → IsStored r
    → Longer rest more (record_text form.order r) behind ⊎ Longer (record_text form.order r) behind rest more → ⊥
record_cut bytes more form records rest r behind never s none fits (inl l) =
    let text = record_text form.order r in
    never (record {
      form = form;
      more = l.mid;
      records = records ++ r ∷ [];
      capture = splits_on form (bytes ++ l.mid) records (r ∷ []) (rest ++ l.mid) []
          (splits_more form bytes records rest l.mid s) (fits, tt)
          (sym l.longer ∙ sym (append-nil text) ∙ sym (append-nil (text ++ [])));
    })
record_cut bytes more form records rest r behind never s none fits (inr l) = none r l.mid fits l.longer

record_stays : (bytes more : List ℕ) (form : Form) (records : List Stored) (rest : List ℕ) → NeverCapture bytes
    → Splits form bytes records rest → HasNoRecord form.order rest → HasNoRecord form.order (rest ++ more)
record_stays bytes more form records rest never s none r behind fits e =
    record_cut bytes more form records rest r behind never s none fits (cuts rest more (record_text form.order r) behind e)

bad_stays : (bytes more : List ℕ) (n : ℕ) → NeverCapture bytes → IsBadPlace bytes n → IsBadPlace (bytes ++ more) n
bad_stays bytes more n never (inl a) = inl (a.0, λ form. header_stays bytes more form never (a.1 form))
bad_stays bytes more n never (inr b) = inr (record {
  form = b.form;
  records = b.records;
  rest = b.rest ++ more;
  splits = splits_more b.form bytes b.records b.rest more b.splits;
  some = omega (arith, b.some, length-append b.rest more);
  none = record_stays bytes more b.form b.records b.rest never b.splits b.none;
  place = omega (arith, b.place, length-append b.rest more, length-append bytes more);
})

-- octets that no others make a capture have the same bad place with any others behind them
pub place_stays : (bytes more : List ℕ) (n : ℕ) → IsThePlace bytes n → NeverCapture bytes → IsThePlace (bytes ++ more) n
place_stays bytes more n place never = the_place (bytes ++ more) n (bad_stays bytes more n never place.0)

never_stays : (bytes more : List ℕ) → NeverCapture bytes → NeverCapture (bytes ++ more)
never_stays bytes more never c = never (record {
  form = c.form;
  more = more ++ c.more;
  records = c.records;
  capture = subst (λ (t : List ℕ). IsCapture c.form t c.records) (append_assoc bytes more c.more) c.capture;
})

-- and the same stands in front of it
place_within : (bytes : List ℕ) (n : ℕ) → IsBadPlace bytes n → n ≤ length bytes
place_within bytes n (inl a) = omega (arith, a.0)
place_within bytes n (inr b) = omega (arith, b.place)

front_stays : (bytes more : List ℕ) (n : ℕ) (given ready : List Record) → n ≤ length bytes → AreInFront bytes n given ready
    → AreInFront (bytes ++ more) n given ready
front_stays bytes more n given ready within (inl w) =
    inl (subst (λ (t : List ℕ). IsWhole t given ready) (sym (take-append-le n bytes more within)) w)
front_stays bytes more n given ready within (inr none) = inr none

cause_stays : (fed more : List ℕ) (e : CapFault) → IsNewFault fed e → IsNewFault (fed ++ more) e
cause_stays fed more OutOfResources c = tt
cause_stays fed more (BadAt n) c = (place_stays fed more n c.0 c.1, never_stays fed more c.1)

left_stays : (fed more : List ℕ) (e : CapFault) (given ready : List Record) → IsNewFault fed e → AreLeft fed e given ready
    → AreLeft (fed ++ more) e given ready
left_stays fed more OutOfResources given ready c l = record {
  place = l.place;
  within = omega (arith, l.within, length-append fed more);
  in_front = front_stays fed more l.place given ready l.within l.in_front;
}
left_stays fed more (BadAt n) given ready c l = front_stays fed more n given ready (place_within fed n c.0.0) l

-- a reader that has stopped hears nothing more
pub stays_stopped : (fed more : List ℕ) (given : List Record) (r : Reading) (e : CapFault) → HasStopped fed given r e
    → HasStopped (fed ++ more) given r e
stays_stopped fed more given r e h = record {
  told = h.told;
  cause = cause_stays fed more e h.cause;
  none_kept = h.none_kept;
  left = left_stays fed more e given r.ready h.cause h.left;
}

front_gives : (fed : List ℕ) (n : ℕ) (given ready rest : List Record) (x : Record) → ready ≡ x ∷ rest → AreInFront fed n given ready
    → AreInFront fed n (given ++ x ∷ []) rest
front_gives fed n given ready rest x is (inl w) = inl (record {
  form = w.form;
  records = w.records;
  capture = w.capture;
  records_are = append_assoc given (x ∷ []) rest ∙ ap (λ (t : List Record). given ++ t) (sym is) ∙ w.records_are;
})
front_gives fed n given ready rest x is (inr none) =
    inr (none.0, append_assoc given (x ∷ []) rest ∙ ap (λ (t : List Record). given ++ t) (sym is) ∙ none.1)

left_gives : (fed : List ℕ) (e : CapFault) (given ready rest : List Record) (x : Record) → ready ≡ x ∷ rest → AreLeft fed e given ready
    → AreLeft fed e (given ++ x ∷ []) rest
left_gives fed OutOfResources given ready rest x is l = record {
  place = l.place;
  within = l.within;
  in_front = front_gives fed l.place given ready rest x is l.in_front;
}
left_gives fed (BadAt n) given ready rest x is l = front_gives fed n given ready rest x is l

-- it gives the records that are left
pub gives_left : (fed : List ℕ) (given : List Record) (old new : Reading) (e : CapFault) (x : Record) → old.ready ≡ x ∷ new.ready
    → new.rest ≡ old.rest → new.fault ≡ old.fault → HasStopped fed given old e → HasStopped fed (given ++ x ∷ []) new e
gives_left fed given old new e x ready rest fault h = record {
  told = fault ∙ h.told;
  cause = h.cause;
  none_kept = rest ∙ h.none_kept;
  left = left_gives fed e given old.ready new.ready x ready h.left;
}
