-- What has been read of a trailer: the front of one, which can end within the limits.
use Rattle.std.proofs.Common.{◌≡◌, ℕ, ◌+◌, ◌<◌, ◌≤◌, Bool, true, false, ◌&&◌, ◌==◌, nat_le, cond, List, [], ◌∷◌, ◌++◌, length, refl, sym, ap, ◌∙◌, subst, arith, append_assoc, append-nil, length-append, Option, Some, None, IsTrue, All}
use Rattle.std.specs.List.{flat_map}
use Rattle.std.proofs.lemmas.Grind.{flat_map-append}
use Rattle.std.proofs.lemmas.Bool.Decides.{nat_tests}
use Rattle.std.proofs.lemmas.List.Elements.{All-append, All-cons, All-nil}
use Rattle.httparse.specs.Grammar.{AllPass, is_token_byte, is_value_byte, LineEnd, crlf, lf, print_end, Field, IsField, print_field}
use Rattle.wire_http.specs.declared.trailer.FieldPlace.{FieldPlace}
use Rattle.wire_http.specs.declared.trailer.FieldPlace.TheVariants as field
use Rattle.wire_http.specs.Chunked.{IsTrailer}
use Rattle.wire_http.specs.Stages.{fits_trailer, least_trailer, next_field_place, next_fields, ends_trailer}

-- a field of this name and value, with a line end
abbrev pub named : List ℕ → List ℕ → LineEnd → Field
named name raw end = record { name = name; raw = raw; end = end }

-- the octets y behind whole field lines, by the place behind them; count says whether one more field has begun
abbrev pub Open : FieldPlace → ℕ → List ℕ → Type 0
Open field.Start more y = (y ≡ []) × (more ≡ 0)
Open field.Last more y = (y ≡ 13 ∷ []) × (more ≡ 0)
Open field.Name more y = (more ≡ 1) × (0 < length y) × AllPass is_token_byte y
Open field.Value more y =
    (more ≡ 1) × (name : List ℕ) × (raw : List ℕ) × IsField (named name raw lf) × (y ≡ name ++ 58 ∷ raw)
Open field.Return more y =
    (more ≡ 1) × (name : List ℕ) × (raw : List ℕ) × IsField (named name raw lf) × (y ≡ (name ++ 58 ∷ raw) ++ 13 ∷ [])

-- the octets x of a trailer that can end within the limits
pub record SeenTrailer (p : FieldPlace) (f l : ℕ) (x : List ℕ) : Type 0 where
  pub lines : List Field
  pub valid : All IsField lines
  pub open_part : List ℕ
  pub more : ℕ
  pub part : Open p more open_part
  pub text : x ≡ flat_map print_field lines ++ open_part
  pub count : length x ≡ l
  pub number : f ≡ length lines + more
  pub fits : fits_trailer p f l ≡ true

limits : (p : FieldPlace) (f l : ℕ) → fits_trailer p f l ≡ true → (l + least_trailer p ≤ 16384) × (f ≤ 64)
limits p f l h = by (l + least_trailer p) h
  where
    by : (a : ℕ) → (nat_le a 16384 && nat_le f 64) ≡ true → (a ≤ 16384) × (f ≤ 64)
    by a e = grind (arith, nat_tests)

AtPlace : (FieldPlace → Type 0) → Option FieldPlace → Type 0
AtPlace P None = Unit {0}
AtPlace P (Some p) = P p

same_place : (P : FieldPlace → Type 0) (p q : FieldPlace) → P p → Some p ≡ Some q → P q
unfolding AtPlace
same_place P p q h e = subst (AtPlace P) e h

is : (b c : ℕ) → (b == c) ≡ true → c ≡ b
is b c e = grind (arith, nat_tests)

-- ---- one more octet

-- what one more octet makes of the open part
abbrev pub Moved : FieldPlace → ℕ → List Field → List ℕ → ℕ → FieldPlace → Type 0
Moved p more lines y b q =
    (lines2 : List Field) × (y2 : List ℕ) × (more2 : ℕ) × All IsField lines2 × Open q more2 y2
    × (flat_map print_field lines2 ++ y2 ≡ (flat_map print_field lines ++ y) ++ b ∷ [])
    × ((f : ℕ) → f ≡ length lines + more → next_fields p f b ≡ length lines2 + more2)

-- within the same line
stay : (p q : FieldPlace) (more : ℕ) (lines : List Field) (y : List ℕ) (b more2 : ℕ) → All IsField lines → Open q more2 (y ++ b ∷ [])
    → ((f : ℕ) → f ≡ length lines + more → next_fields p f b ≡ length lines + more2) → Moved p more lines y b q
stay p q more lines y b more2 valid part number =
    (lines, y ++ b ∷ [], more2, valid, part, sym (append_assoc (flat_map print_field lines) y (b ∷ [])), number)

-- a field line ends
line_end : (p : FieldPlace) (lines : List Field) (y name raw : List ℕ) (e : LineEnd) (b : ℕ) → All IsField lines
    → IsField (named name raw lf) → y ++ b ∷ [] ≡ print_field (named name raw e)
    → ((f : ℕ) → next_fields p f b ≡ f) → Moved p 1 lines y b field.Start
line_end p lines y name raw e b valid is_field text same =
    let d : Field = named name raw e in
    let last : flat_map print_field (d ∷ []) ≡ print_field d = append-nil (print_field d) in (
      lines ++ d ∷ [],
      [],
      0,
      All-append IsField lines (d ∷ []) valid (All-cons IsField d [] (record { name = is_field.name; raw = is_field.raw }) (All-nil IsField)),
      (refl, refl),
      append-nil (flat_map print_field (lines ++ d ∷ []))
          ∙ flat_map-append print_field lines (d ∷ [])
          ∙ ap (λ (t : List ℕ). flat_map print_field lines ++ t) (last ∙ sym text)
          ∙ sym (append_assoc (flat_map print_field lines) y (b ∷ [])),
      λ f e. same f ∙ omega (arith, e, length-append lines (d ∷ [])),
    )

from_start : (q : FieldPlace) (more : ℕ) (lines : List Field) (y : List ℕ) (b : ℕ) → All IsField lines → Open field.Start more y
    → next_field_place field.Start b ≡ Some q → Moved field.Start more lines y b q
from_start q more lines y b valid part next = by (b == 13) refl next
  where
    token : (t : Bool) → is_token_byte b ≡ t → (b == 13) ≡ false → cond t (Some field.Name) None ≡ Some q → Moved field.Start more lines y b q
    token true e apart next =
        let first : Open field.Name 1 (y ++ b ∷ []) =
        subst (λ (y : List ℕ). Open field.Name 1 (y ++ b ∷ [])) (sym part.0)
        (refl, omega arith, All-cons (λ b. IsTrue (is_token_byte b)) b [] e (All-nil (λ b. IsTrue (is_token_byte b)))) in
        same_place (Moved field.Start more lines y b) field.Name q
        (stay field.Start field.Name more lines y b 1 valid first
        (λ f n. ap (λ (t : Bool). cond t f (f + 1)) apart ∙ omega (arith, n, part.1))) next
    token false e apart next = absurd (cc)

    by : (t : Bool) → (b == 13) ≡ t → cond t (Some field.Last) (cond (is_token_byte b) (Some field.Name) None) ≡ Some q
        → Moved field.Start more lines y b q
    by true e next =
        let last : Open field.Last 0 (y ++ b ∷ []) =
        (ap (λ (y : List ℕ). y ++ b ∷ []) part.0 ∙ ap (λ (c : ℕ). c ∷ []) (sym (is b 13 e)), refl) in
        same_place (Moved field.Start more lines y b) field.Last q
        (stay field.Start field.Last more lines y b 0 valid last
        (λ f n. ap (λ (t : Bool). cond t f (f + 1)) e ∙ omega (arith, n, part.1))) next
    by false e next = token (is_token_byte b) refl e next

from_name : (q : FieldPlace) (more : ℕ) (lines : List Field) (y : List ℕ) (b : ℕ) → All IsField lines → Open field.Name more y
    → next_field_place field.Name b ≡ Some q → Moved field.Name more lines y b q
from_name q more lines y b valid part next = by (b == 58) refl next
  where
    token : (t : Bool) → is_token_byte b ≡ t → cond t (Some field.Name) None ≡ Some q → Moved field.Name more lines y b q
    token true e next =
        let longer : Open field.Name 1 (y ++ b ∷ []) = (
          refl,
          omega (arith, length-append y (b ∷ [])),
          All-append (λ b. IsTrue (is_token_byte b)) y (b ∷ []) part.2 (All-cons (λ b. IsTrue (is_token_byte b)) b [] e (All-nil (λ b. IsTrue (is_token_byte b)))),
        ) in
        same_place (Moved field.Name more lines y b) field.Name q
        (stay field.Name field.Name more lines y b 1 valid longer (λ f n. omega (arith, n, part.0))) next
    token false e next = absurd (cc)

    by : (t : Bool) → (b == 58) ≡ t → cond t (Some field.Value) (cond (is_token_byte b) (Some field.Name) None) ≡ Some q
        → Moved field.Name more lines y b q
    by true e next =
        let value : Open field.Value 1 (y ++ b ∷ []) = (
          refl,
          y,
          [],
          record { name = (part.1, part.2); raw = All-nil (λ b. IsTrue (is_value_byte b)) },
          ap (λ (c : ℕ). y ++ c ∷ []) (sym (is b 58 e)),
        ) in
        same_place (Moved field.Name more lines y b) field.Value q
        (stay field.Name field.Value more lines y b 1 valid value (λ f n. omega (arith, n, part.0))) next
    by false e next = token (is_token_byte b) refl next

print_named : (name raw : List ℕ) (e : LineEnd) → print_field (named name raw e) ≡ (name ++ 58 ∷ raw) ++ print_end e
print_named name raw e = simp append_assoc

longer_value : (name raw y : List ℕ) (b : ℕ) → IsField (named name raw lf) → y ≡ name ++ 58 ∷ raw → is_value_byte b ≡ true
    → Open field.Value 1 (y ++ b ∷ [])
longer_value name raw y b valid text e = (
  refl,
  name,
  raw ++ b ∷ [],
  record {
    name = valid.name;
    raw = All-append (λ b. IsTrue (is_value_byte b)) raw (b ∷ []) valid.raw (All-cons (λ b. IsTrue (is_value_byte b)) b [] e (All-nil (λ b. IsTrue (is_value_byte b))));
  },
  ap (λ (t : List ℕ). t ++ b ∷ []) text ∙ append_assoc name (58 ∷ raw) (b ∷ []),
)

from_value : (q : FieldPlace) (more : ℕ) (lines : List Field) (y : List ℕ) (b : ℕ) → All IsField lines → Open field.Value more y
    → next_field_place field.Value b ≡ Some q → Moved field.Value more lines y b q
from_value q more lines y b valid part next = feed (b == 10) refl next
  where
    value : (t : Bool) → is_value_byte b ≡ t → cond t (Some field.Value) None ≡ Some q → Moved field.Value more lines y b q
    value true e next =
        same_place (Moved field.Value more lines y b) field.Value q
        (stay field.Value field.Value more lines y b 1 valid (longer_value part.1 part.2 y b part.3 part.4 e)
        (λ f n. omega (arith, n, part.0))) next
    value false e next = absurd (cc)

    return : (t : Bool) → (b == 13) ≡ t → cond t (Some field.Return) (cond (is_value_byte b) (Some field.Value) None) ≡ Some q
        → Moved field.Value more lines y b q
    return true e next =
        let last : Open field.Return 1 (y ++ b ∷ []) = (
          refl,
          part.1,
          part.2,
          part.3,
          ap (λ (t : List ℕ). t ++ b ∷ []) part.4 ∙ ap (λ (c : ℕ). (part.1 ++ 58 ∷ part.2) ++ c ∷ []) (sym (is b 13 e)),
        ) in
        same_place (Moved field.Value more lines y b) field.Return q
        (stay field.Value field.Return more lines y b 1 valid last (λ f n. omega (arith, n, part.0))) next
    return false e next = value (is_value_byte b) refl next

    feed : (t : Bool) → (b == 10) ≡ t
        → cond t (Some field.Start) (cond (b == 13) (Some field.Return) (cond (is_value_byte b) (Some field.Value) None)) ≡ Some q
        → Moved field.Value more lines y b q
    feed true e next =
        let text : y ++ b ∷ [] ≡ print_field (named part.1 part.2 lf) =
        ap (λ (t : List ℕ). t ++ b ∷ []) part.4 ∙ ap (λ (c : ℕ). (part.1 ++ 58 ∷ part.2) ++ c ∷ []) (sym (is b 10 e))
        ∙ sym (print_named part.1 part.2 lf) in
        let ended : Moved field.Value 1 lines y b field.Start = line_end field.Value lines y part.1 part.2 lf b valid part.3 text (λ f. refl) in
        same_place (Moved field.Value more lines y b) field.Start q
        (subst (λ (m : ℕ). Moved field.Value m lines y b field.Start) (sym part.0) ended) next
    feed false e next = return (b == 13) refl next

from_return : (q : FieldPlace) (more : ℕ) (lines : List Field) (y : List ℕ) (b : ℕ) → All IsField lines → Open field.Return more y
    → next_field_place field.Return b ≡ Some q → Moved field.Return more lines y b q
from_return q more lines y b valid part next = feed (b == 10) refl next
  where
    feed : (t : Bool) → (b == 10) ≡ t → cond t (Some field.Start) None ≡ Some q → Moved field.Return more lines y b q
    feed true e next =
        let text : y ++ b ∷ [] ≡ print_field (named part.1 part.2 crlf) =
        ap (λ (t : List ℕ). t ++ b ∷ []) part.4
        ∙ ap (λ (c : ℕ). ((part.1 ++ 58 ∷ part.2) ++ 13 ∷ []) ++ c ∷ []) (sym (is b 10 e))
        ∙ append_assoc (part.1 ++ 58 ∷ part.2) (13 ∷ []) (10 ∷ [])
        ∙ sym (print_named part.1 part.2 crlf) in
        let ended : Moved field.Return 1 lines y b field.Start = line_end field.Return lines y part.1 part.2 crlf b valid part.3 text (λ f. refl) in
        same_place (Moved field.Return more lines y b) field.Start q
        (subst (λ (m : ℕ). Moved field.Return m lines y b field.Start) (sym part.0) ended) next
    feed false e next = absurd (cc)

moved : (p q : FieldPlace) (more : ℕ) (lines : List Field) (y : List ℕ) (b : ℕ) → All IsField lines → Open p more y
    → next_field_place p b ≡ Some q → Moved p more lines y b q
moved field.Start q more lines y b valid part next = from_start q more lines y b valid part next
moved field.Name q more lines y b valid part next = from_name q more lines y b valid part next
moved field.Value q more lines y b valid part next = from_value q more lines y b valid part next
moved field.Return q more lines y b valid part next = from_return q more lines y b valid part next
moved field.Last q more lines y b valid part next = absurd (cc)

pub trailer_step : (p q : FieldPlace) (f l b : ℕ) (x : List ℕ) → SeenTrailer p f l x → next_field_place p b ≡ Some q
    → fits_trailer q (next_fields p f b) (l + 1) ≡ true → SeenTrailer q (next_fields p f b) (l + 1) (x ++ b ∷ [])
trailer_step p q f l b x seen next fits =
    let m = moved p q seen.more seen.lines seen.open_part b seen.valid seen.part next in
    record {
      lines = m.0;
      valid = m.3;
      open_part = m.1;
      more = m.2;
      part = m.4;
      text = ap (λ (t : List ℕ). t ++ b ∷ []) seen.text ∙ sym m.5;
      count = omega (arith, length-append x (b ∷ []), seen.count);
      number = m.6 f seen.number;
      fits = fits;
    }

-- ---- it can end

-- a trailer whose text is x and some more
abbrev pub CanEnd : List ℕ → Type 0
CanEnd x = (rest : List ℕ) × IsTrailer (x ++ rest)

finish : (lines : List Field) (x rest : List ℕ) (e : LineEnd) → All IsField lines → length lines ≤ 64
    → x ++ rest ≡ flat_map print_field lines ++ print_end e → length (x ++ rest) ≤ 16384 → IsTrailer (x ++ rest)
finish lines x rest e valid few text short =
    record { fields = lines; valid = valid; few = few; last = e; text_is = text; short = short }

-- one more field line, and the empty line
with_line : (f l : ℕ) (lines : List Field) (x y rest name raw : List ℕ) → All IsField lines → IsField (named name raw lf)
    → f ≡ length lines + 1 → f ≤ 64 → x ≡ flat_map print_field lines ++ y → length x ≡ l → l + length rest ≤ 16384
    → (e : LineEnd) → y ++ rest ≡ print_field (named name raw e) ++ 10 ∷ [] → IsTrailer (x ++ rest)
with_line f l lines x y rest name raw valid is_field number few text count short e open_text =
    let d : Field = named name raw e in
    let last : flat_map print_field (d ∷ []) ≡ print_field d = append-nil (print_field d) in
    finish (lines ++ d ∷ []) x rest lf
    (All-append IsField lines (d ∷ []) valid (All-cons IsField d [] (record { name = is_field.name; raw = is_field.raw }) (All-nil IsField)))
    (omega (arith, length-append lines (d ∷ [])))
    (ap (λ (t : List ℕ). t ++ rest) text
    ∙ append_assoc (flat_map print_field lines) y rest
    ∙ ap (λ (t : List ℕ). flat_map print_field lines ++ t) (open_text ∙ ap (λ (t : List ℕ). t ++ 10 ∷ []) (sym last))
    ∙ sym (append_assoc (flat_map print_field lines) (flat_map print_field (d ∷ [])) (10 ∷ []))
    ∙ ap (λ (t : List ℕ). t ++ 10 ∷ []) (sym (flat_map-append print_field lines (d ∷ []))))
    (omega (arith, length-append x rest))

pub can_end : (p : FieldPlace) (f l : ℕ) (x : List ℕ) → SeenTrailer p f l x → CanEnd x
can_end field.Start f l x seen =
    let most = limits field.Start f l seen.fits in
    let text : x ++ 10 ∷ [] ≡ flat_map print_field seen.lines ++ 10 ∷ [] =
    ap (λ (t : List ℕ). t ++ 10 ∷ []) (seen.text ∙ ap (λ (t : List ℕ). flat_map print_field seen.lines ++ t) seen.part.0 ∙ append-nil (flat_map print_field seen.lines)) in
    (10 ∷ [], finish seen.lines x (10 ∷ []) lf seen.valid (omega (arith, seen.number)) text (omega (arith, length-append x (10 ∷ []), seen.count)))
can_end field.Last f l x seen =
    let most = limits field.Last f l seen.fits in
    let text : x ++ 10 ∷ [] ≡ flat_map print_field seen.lines ++ 13 ∷ 10 ∷ [] =
    ap (λ (t : List ℕ). t ++ 10 ∷ []) (seen.text ∙ ap (λ (t : List ℕ). flat_map print_field seen.lines ++ t) seen.part.0)
    ∙ append_assoc (flat_map print_field seen.lines) (13 ∷ []) (10 ∷ []) in
    (10 ∷ [], finish seen.lines x (10 ∷ []) crlf seen.valid (omega (arith, seen.number)) text (omega (arith, length-append x (10 ∷ []), seen.count)))
can_end field.Name f l x seen =
    let most = limits field.Name f l seen.fits in
    let y = seen.open_part in
    let text : y ++ 58 ∷ 10 ∷ 10 ∷ [] ≡ print_field (named y [] lf) ++ 10 ∷ [] =
    sym (append_assoc y (58 ∷ 10 ∷ []) (10 ∷ [])) ∙ ap (λ (t : List ℕ). t ++ 10 ∷ []) (sym (print_named y [] lf ∙ append_assoc y (58 ∷ []) (10 ∷ []))) in (
      58 ∷ 10 ∷ 10 ∷ [],
      with_line f l seen.lines x y (58 ∷ 10 ∷ 10 ∷ []) y [] seen.valid
          (record { name = (seen.part.1, seen.part.2); raw = All-nil (λ b. IsTrue (is_value_byte b)) })
          (omega (arith, seen.number, seen.part.0)) most.1 seen.text seen.count (omega (arith, most.0)) lf text,
    )
can_end field.Value f l x seen =
    let most = limits field.Value f l seen.fits in
    let y = seen.open_part in
    let name = seen.part.1 in
    let raw = seen.part.2 in
    let text : y ++ 10 ∷ 10 ∷ [] ≡ print_field (named name raw lf) ++ 10 ∷ [] =
    sym (append_assoc y (10 ∷ []) (10 ∷ []))
    ∙ ap (λ (t : List ℕ). (t ++ 10 ∷ []) ++ 10 ∷ []) seen.part.4
    ∙ ap (λ (t : List ℕ). t ++ 10 ∷ []) (sym (print_named name raw lf)) in (
      10 ∷ 10 ∷ [],
      with_line f l seen.lines x y (10 ∷ 10 ∷ []) name raw seen.valid seen.part.3
          (omega (arith, seen.number, seen.part.0)) most.1 seen.text seen.count (omega (arith, most.0)) lf text,
    )
can_end field.Return f l x seen =
    let most = limits field.Return f l seen.fits in
    let y = seen.open_part in
    let name = seen.part.1 in
    let raw = seen.part.2 in
    let text : y ++ 10 ∷ 10 ∷ [] ≡ print_field (named name raw crlf) ++ 10 ∷ [] =
    sym (append_assoc y (10 ∷ []) (10 ∷ []))
    ∙ ap (λ (t : List ℕ). (t ++ 10 ∷ []) ++ 10 ∷ []) seen.part.4
    ∙ ap (λ (t : List ℕ). t ++ 10 ∷ []) (append_assoc (name ++ 58 ∷ raw) (13 ∷ []) (10 ∷ []) ∙ sym (print_named name raw crlf)) in (
      10 ∷ 10 ∷ [],
      with_line f l seen.lines x y (10 ∷ 10 ∷ []) name raw seen.valid seen.part.3
          (omega (arith, seen.number, seen.part.0)) most.1 seen.text seen.count (omega (arith, most.0)) crlf text,
    )

-- the octet that ends it
pub trailer_ended : (p : FieldPlace) (f l b : ℕ) (x : List ℕ) → SeenTrailer p f l x → ends_trailer p b ≡ true → IsTrailer (x ++ b ∷ [])
unfolding can_end
trailer_ended field.Name f l b x seen ends = absurd (cc)
trailer_ended field.Value f l b x seen ends = absurd (cc)
trailer_ended field.Return f l b x seen ends = absurd (cc)
trailer_ended field.Start f l b x seen ends =
    subst (λ (c : ℕ). IsTrailer (x ++ c ∷ [])) (is b 10 ends) ((can_end field.Start f l x seen).1)
trailer_ended field.Last f l b x seen ends =
    subst (λ (c : ℕ). IsTrailer (x ++ c ∷ [])) (is b 10 ends) ((can_end field.Last f l x seen).1)

pub trailer_start : SeenTrailer field.Start 0 0 []
trailer_start = record {
  lines = [];
  valid = All-nil IsField;
  open_part = [];
  more = 0;
  part = (refl, refl);
  text = refl;
  count = refl;
  number = refl;
  fits = refl;
}
