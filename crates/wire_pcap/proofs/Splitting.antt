-- What stands in the octets of a capture, and what can't.
use Rattle.std.proofs.Common.{◌≡◌, inl, inr, ℕ, ◌+◌, ◌-◌, ◌<◌, ◌≤◌, List, [], ◌∷◌, ◌++◌, length, drop, sym, ap, subst, ◌∙◌, arith, append_assoc, length-append}
use Rattle.std.specs.List.{flat_map, AllByRecursion}
use Rattle.std.proofs.lemmas.List.{drop_at, drop_all, append-nil}
use Rattle.std.proofs.lemmas.Grind.{flat_map-append}
use Rattle.wire_pcap.specs.Grammar.{Order, Form, IsHeader, Stored, IsStored, record_text, Splits, IsCapture}
use Rattle.wire_pcap.specs.Place.{IsCaptureFront, NeverCapture, HasNoRecord, IsBadPlace, IsThePlace}
use Rattle.wire_pcap.specs.Reading.{IsHeaderFront, IsPartial}
use Rattle.wire_pcap.specs.Steps.{kept_at, record_at}
use Rattle.wire_pcap.specs.Next.{IsOver}
use Rattle.wire_pcap.proofs.Numbers.{IsOctets, nulls, length-nulls, get_or-nulls, kept_at-nulls, kept_at-more}
use Rattle.wire_pcap.proofs.Texts.{parts_of, one_front, length-record_text, text-record_at, stored_at}
use Rattle.wire_pcap.proofs.Headers.{length-header, front_at, one_form}

pub each-append : (xs ys : List Stored) → AllByRecursion IsStored xs → AllByRecursion IsStored ys → AllByRecursion IsStored (xs ++ ys)
each-append [] ys f g = g
each-append (x ∷ xs) ys f g = (f.0, each-append xs ys f.1 g)

-- records, and then octets at whose front no record stands, are never records alone
only_records : (order : Order) (rs ts : List Stored) (rest : List ℕ) → AllByRecursion IsStored rs → AllByRecursion IsStored ts
    → 0 < length rest → HasNoRecord order rest
    → flat_map (record_text order) rs ++ rest ≡ flat_map (record_text order) ts ++ [] → ⊥
only_records order [] [] rest fr ft some none e = omega (arith, ap length e)
only_records order [] (t ∷ ts) rest fr ft some none e =
    none t (flat_map (record_text order) ts ++ []) ft.0 (e ∙ append_assoc (record_text order t) (flat_map (record_text order) ts) [])
only_records order (r ∷ rs) [] rest fr ft some none e =
    let long : length ((record_text order r ++ flat_map (record_text order) rs) ++ rest) ≡ 0 = ap length e in
    omega (arith, long, length-append (record_text order r ++ flat_map (record_text order) rs) rest)
only_records order (r ∷ rs) (t ∷ ts) rest fr ft some none e =
    let joined : record_text order r ++ (flat_map (record_text order) rs ++ rest) ≡ record_text order t ++ (flat_map (record_text order) ts ++ []) =
    sym (append_assoc (record_text order r) (flat_map (record_text order) rs) rest) ∙ e
    ∙ append_assoc (record_text order t) (flat_map (record_text order) ts) [] in
    let one = one_front order r t (flat_map (record_text order) rs ++ rest) (flat_map (record_text order) ts ++ []) fr.0 ft.0 joined in
    only_records order rs ts rest fr.1 ft.1 some none one.rests

-- what stands behind a header is what stands behind any other
pub behind_header : (form : Form) (g h x y : List ℕ) → IsHeader form g → IsHeader form h → g ++ x ≡ h ++ y → x ≡ y
behind_header form g h x y ig ih e =
    sym (drop_at g x 24 (length-header form g ig)) ∙ ap (drop 24) e ∙ drop_at h y 24 (length-header form h ih)

-- a capture has no rest at whose front no record stands
pub not_capture : (form : Form) (bytes : List ℕ) (records : List Stored) (rest : List ℕ) → Splits form bytes records rest
    → 0 < length rest → HasNoRecord form.order rest → (others : List Stored) → IsCapture form bytes others → ⊥
not_capture form bytes records rest s some none others c =
    only_records form.order records others rest s.each c.each some none
    (behind_header form s.header c.header (flat_map (record_text form.order) records ++ rest)
    (flat_map (record_text form.order) others ++ []) s.is_header c.is_header (sym s.text ∙ c.text))

-- the same split of octets to which others were added
pub splits_more : (form : Form) (bytes : List ℕ) (records : List Stored) (rest more : List ℕ) → Splits form bytes records rest
    → Splits form (bytes ++ more) records (rest ++ more)
splits_more form bytes records rest more s = record {
  header = s.header;
  is_header = s.is_header;
  each = s.each;
  text = ap (λ (t : List ℕ). t ++ more) s.text
      ∙ append_assoc s.header (flat_map (record_text form.order) records ++ rest) more
      ∙ ap (λ (t : List ℕ). s.header ++ t) (append_assoc (flat_map (record_text form.order) records) rest more);
}

-- the same with records that stand in the rest
pub splits_on : (form : Form) (bytes : List ℕ) (records next : List Stored) (rest behind : List ℕ) → Splits form bytes records rest
    → AllByRecursion IsStored next → rest ≡ flat_map (record_text form.order) next ++ behind
    → Splits form bytes (records ++ next) behind
splits_on form bytes records next rest behind s each e =
    let f = record_text form.order in
    record {
      header = s.header;
      is_header = s.is_header;
      each = each-append records next s.each each;
      text = s.text ∙ ap (λ (t : List ℕ). s.header ++ t)
          (ap (λ (t : List ℕ). flat_map f records ++ t) e ∙ sym (append_assoc (flat_map f records) (flat_map f next) behind)
          ∙ ap (λ (t : List ℕ). t ++ behind) (sym (flat_map-append f records next)));
    }

-- nor one of another form
pub no_capture : (form : Form) (bytes : List ℕ) (records : List Stored) (rest : List ℕ) → Splits form bytes records rest
    → 0 < length rest → HasNoRecord form.order rest → (g : Form) (others : List Stored) → IsCapture g bytes others → ⊥
no_capture form bytes records rest s some none g others c =
    let this = front_at form s.header (flat_map (record_text form.order) records ++ rest) bytes s.is_header s.text in
    let that = front_at g c.header (flat_map (record_text g.order) others ++ []) bytes c.is_header c.text in
    let same : g ≡ form = one_form g form (sym that ∙ this) in
    not_capture form bytes records rest s some none others (subst (λ (f : Form). IsCapture f bytes others) same c)

-- however octets go on, they are no capture where no record can stand at the front of the rest
pub never_capture : (form : Form) (bytes : List ℕ) (records : List Stored) (rest : List ℕ) → Splits form bytes records rest
    → 0 < length rest → ((more : List ℕ) → HasNoRecord form.order (rest ++ more)) → NeverCapture bytes
never_capture form bytes records rest s some none c =
    no_capture form (bytes ++ c.more) records (rest ++ c.more) (splits_more form bytes records rest c.more s)
    (omega (arith, length-append rest c.more)) (none c.more) c.form c.records c.capture

-- no record says that more octets were kept than may be
pub over_has_none : (order : Order) (bytes : List ℕ) → IsOver order bytes → (more : List ℕ) → HasNoRecord order (bytes ++ more)
over_has_none order bytes over more r rest fits e =
    let p = parts_of order r rest (bytes ++ more) fits e in
    let few : length r.frame ≤ 262144 = fits.frame in
    let least : kept_at order bytes ≤ kept_at order (bytes ++ more) = kept_at-more order bytes more in
    let kept : kept_at order (bytes ++ more) ≡ length r.frame = p.kept in
    omega (arith, over, few, least, kept)

-- less than a whole record isn't one
pub partial_has_none : (order : Order) (bytes : List ℕ) → IsPartial order bytes → HasNoRecord order bytes
partial_has_none order bytes p r rest fits e =
    let joined : record_text order r ++ (rest ++ p.more) ≡ record_text order p.stored ++ [] =
    sym (append_assoc (record_text order r) rest p.more) ∙ ap (λ (t : List ℕ). t ++ p.more) (sym e) ∙ p.text
    ∙ sym (append-nil (record_text order p.stored)) in
    let one = one_front order r p.stored (rest ++ p.more) [] fits p.is_stored joined in
    omega (arith, ap length one.rests, length-append rest p.more, p.some)

-- octets that say less than what they have room for go on to a record, at the least by zeros
pub partial_of : (order : Order) (bytes : List ℕ) → IsOctets bytes → length bytes < 16 + kept_at order bytes
    → kept_at order bytes ≤ 262144 → IsPartial order bytes
partial_of order bytes octets short few =
    let k = kept_at order bytes in
    let n = 16 + k - length bytes in
    let more = nulls n in
    let whole = bytes ++ more in
    let count : length more ≡ n = length-nulls n in
    let long : length whole ≡ 16 + k = omega (arith, length-append bytes more, count, short) in
    let all : IsOctets whole = λ i. omega (arith, get_or-nulls bytes n i, octets i) in
    let kept : kept_at order whole ≡ k = kept_at-nulls order bytes n in
    let there : 16 + kept_at order whole ≤ length whole = omega (arith, long, kept) in
    let none : drop (16 + kept_at order whole) whole ≡ [] = drop_all (16 + kept_at order whole) whole (omega (arith, long, kept)) in
    record {
      more = more;
      stored = record_at order whole;
      some = omega (arith, count, short);
      is_stored = stored_at order whole all there (omega (arith, kept, few));
      text = text-record_at order whole all there
          ∙ ap (λ (t : List ℕ). record_text order (record_at order whole) ++ t) none
          ∙ append-nil (record_text order (record_at order whole));
    }

-- less than a whole record has fewer octets than a record can take
pub partial_few : (order : Order) (bytes : List ℕ) → IsPartial order bytes → length bytes < 262160
partial_few order bytes p =
    let fits : length p.stored.frame ≤ 262144 = p.is_stored.frame in
    omega (arith, ap length p.text, length-append bytes p.more, length-record_text order p.stored, fits, p.some)

-- behind whole records it goes on to a capture
pub partial_goes_on : (form : Form) (bytes : List ℕ) (records : List Stored) (rest : List ℕ) → Splits form bytes records rest
    → IsPartial form.order rest → IsCaptureFront bytes
partial_goes_on form bytes records rest s p =
    let text = record_text form.order p.stored in
    record {
      form = form;
      more = p.more;
      records = records ++ p.stored ∷ [];
      capture = splits_on form (bytes ++ p.more) records (p.stored ∷ []) (rest ++ p.more) []
          (splits_more form bytes records rest p.more s) (p.is_stored, tt)
          (p.text ∙ sym (append-nil text) ∙ sym (append-nil (text ++ [])));
    }

-- and so does less than a whole header
pub header_goes_on : (form : Form) (bytes : List ℕ) → IsHeaderFront form bytes → IsCaptureFront bytes
header_goes_on form bytes f = record {
  form = form;
  more = f.more;
  records = [];
  capture = record { header = bytes ++ f.more; is_header = f.header; each = tt; text = sym (append-nil (bytes ++ f.more)) };
}

-- records and then a rest without one stand there in one way
same_rest : (order : Order) (rs ts : List Stored) (x y : List ℕ) → AllByRecursion IsStored rs → AllByRecursion IsStored ts
    → HasNoRecord order x → HasNoRecord order y
    → flat_map (record_text order) rs ++ x ≡ flat_map (record_text order) ts ++ y → x ≡ y
same_rest order [] [] x y fr ft nx ny e = e
same_rest order [] (t ∷ ts) x y fr ft nx ny e =
    absurd (nx t (flat_map (record_text order) ts ++ y) ft.0 (e ∙ append_assoc (record_text order t) (flat_map (record_text order) ts) y))
same_rest order (r ∷ rs) [] x y fr ft nx ny e =
    absurd (ny r (flat_map (record_text order) rs ++ x) fr.0 (sym e ∙ append_assoc (record_text order r) (flat_map (record_text order) rs) x))
same_rest order (r ∷ rs) (t ∷ ts) x y fr ft nx ny e =
    let joined : record_text order r ++ (flat_map (record_text order) rs ++ x) ≡ record_text order t ++ (flat_map (record_text order) ts ++ y) =
    sym (append_assoc (record_text order r) (flat_map (record_text order) rs) x) ∙ e
    ∙ append_assoc (record_text order t) (flat_map (record_text order) ts) y in
    let one = one_front order r t (flat_map (record_text order) rs ++ x) (flat_map (record_text order) ts ++ y) fr.0 ft.0 joined in
    same_rest order rs ts x y fr.1 ft.1 nx ny one.rests

same_rests : (f g : Form) → f ≡ g → (bytes : List ℕ) (rs ts : List Stored) (x y : List ℕ) → Splits f bytes rs x → Splits g bytes ts y
    → HasNoRecord f.order x → HasNoRecord g.order y → x ≡ y
same_rests f g same bytes rs ts x y s t nx ny =
    let u : Splits f bytes ts y = subst (λ (k : Form). Splits k bytes ts y) (sym same) t in
    let none : HasNoRecord f.order y = subst (λ (k : Form). HasNoRecord k.order y) (sym same) ny in
    same_rest f.order rs ts x y s.each u.each nx none
    (behind_header f s.header u.header (flat_map (record_text f.order) rs ++ x) (flat_map (record_text f.order) ts ++ y)
    s.is_header u.is_header (sym s.text ∙ u.text))

-- there is one bad place at most
one_place : (bytes : List ℕ) (n m : ℕ) → IsBadPlace bytes n → IsBadPlace bytes m → n ≡ m
one_place bytes n m (inl a) (inl b) = a.0 ∙ sym b.0
one_place bytes n m (inl a) (inr b) = absurd (a.1 b.form b.splits.header _ b.splits.is_header b.splits.text)
one_place bytes n m (inr a) (inl b) = absurd (b.1 a.form a.splits.header _ a.splits.is_header a.splits.text)
one_place bytes n m (inr a) (inr b) =
    let s = a.splits in
    let t = b.splits in
    let this = front_at a.form s.header (flat_map (record_text a.form.order) a.records ++ a.rest) bytes s.is_header s.text in
    let that = front_at b.form t.header (flat_map (record_text b.form.order) b.records ++ b.rest) bytes t.is_header t.text in
    let rests = same_rests a.form b.form (one_form a.form b.form (sym this ∙ that)) bytes a.records b.records a.rest b.rest s t a.none b.none in
    omega (arith, ap length rests, a.place, b.place)

pub the_place : (bytes : List ℕ) (n : ℕ) → IsBadPlace bytes n → IsThePlace bytes n
the_place bytes n bad = (bad, λ m other. one_place bytes m n other bad)
