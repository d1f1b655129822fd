-- What has been read of a chunk line: the front of one, which can end within the limits.
use Rattle.std.proofs.Common.{◌≡◌, ℕ, ◌+◌, ◌*◌, ◌≤◌, ◌⊎◌, Bool, true, false, ◌&&◌, ◌==◌, nat_le, cond, List, [], ◌∷◌, ◌++◌, length, refl, sym, ap, ◌∙◌, subst, arith, append_assoc, append-nil, length-append, Option, Some, None, IsTrue, inl, inr}
use Rattle.std.proofs.lemmas.Bool.Decides.{nat_tests}
use Rattle.std.proofs.lemmas.List.Elements.{All-append, All-cons, All-nil}
use Rattle.std.specs.Char.{is_ascii_hexdigit, digit_value}
use Rattle.httparse.specs.Grammar.{is_ows, is_extension_byte, IsExtension, ChunkLine, IsChunkLine, chunk_size, print_extension, print_chunk_line}
use Rattle.httparse.proofs.ChunkLemmas.{digits_value_after_push}
use Rattle.wire_http.specs.declared.chunk_line.LinePlace.{LinePlace}
use Rattle.wire_http.specs.declared.chunk_line.LinePlace.TheVariants as line
use Rattle.wire_http.specs.Chunked.{IsLine}
use Rattle.wire_http.specs.Stages.{fits_line, least_line, digits_at, next_place, after_size, next_size, with_digit, ends_line}
use Rattle.wire_http.proofs.LineWalks.{line_text}

-- a valid line whose text but CR and LF is x
pub record Front (k : ChunkLine) (s : ℕ) (x : List ℕ) : Type 0 where
  pub valid : IsChunkLine k
  pub size : s ≡ chunk_size k
  pub text : x ≡ k.digits ++ (k.pad ++ print_extension k.extension)

-- the octets x of a line, by the place behind them
abbrev pub Shape : LinePlace → ℕ → List ℕ → Type 0
Shape line.Start s x = (x ≡ []) × (s ≡ 0)
Shape line.Size s x = (k : ChunkLine) × Front k s x × (k.pad ≡ []) × (k.extension ≡ None)
Shape line.Pad s x = (k : ChunkLine) × Front k s x × (k.extension ≡ None)
Shape line.Extension s x = (k : ChunkLine) × (e : List ℕ) × Front k s x × (k.extension ≡ Some e)
Shape line.Return s x = (k : ChunkLine) × IsChunkLine k × (s ≡ chunk_size k) × (print_chunk_line k ≡ x ++ 10 ∷ [])

-- the octets x of a line that can end within the limits
pub record SeenLine (p : LinePlace) (s l : ℕ) (x : List ℕ) : Type 0 where
  pub count : length x ≡ l
  pub fits : fits_line p s l ≡ true
  pub shape : Shape p s x

limits : (p : LinePlace) (s l : ℕ) → fits_line p s l ≡ true → (l + least_line p ≤ 256) × (s ≤ 2147483648) × (digits_at p l ≤ 16)
limits p s l h = by (l + least_line p) (digits_at p l) h
  where
    by : (a b : ℕ) → (nat_le a 256 && (nat_le s 2147483648 && nat_le b 16)) ≡ true → (a ≤ 256) × (s ≤ 2147483648) × (b ≤ 16)
    by a b e = grind (arith, nat_tests)

front_cr : (k : ChunkLine) (s : ℕ) (x : List ℕ) → Front k s x → Shape line.Return s (x ++ 13 ∷ [])
front_cr k s x h = (
  k,
  h.valid,
  h.size,
  sym (append-nil (print_chunk_line k))
      ∙ line_text k []
      ∙ regroup k.digits k.pad (print_extension k.extension)
      ∙ ap (λ (t : List ℕ). (t ++ 13 ∷ []) ++ 10 ∷ []) (sym h.text),
)
  where
    regroup : (a b c : List ℕ) → a ++ (b ++ (c ++ 13 ∷ 10 ∷ [])) ≡ ((a ++ (b ++ c)) ++ 13 ∷ []) ++ 10 ∷ []
    regroup a b c = simp append_assoc

first_digit : (b n : ℕ) → is_ascii_hexdigit b ≡ true → n ≡ 0 * 16 + digit_value b → Shape line.Size n (b ∷ [])
first_digit b n hex value =
    let k : ChunkLine = record { digits = b ∷ []; pad = []; extension = None } in (
      k,
      record {
        valid = record {
          digits = (omega arith, omega arith, All-cons (λ b. IsTrue (is_ascii_hexdigit b)) b [] hex (All-nil (λ b. IsTrue (is_ascii_hexdigit b))));
          pad = All-nil (λ b. IsTrue (is_ows b));
          extension = tt;
        };
        size = value;
        text = refl;
      },
      refl,
      refl,
    )

more_digit : (b s n : ℕ) (x : List ℕ) → Shape line.Size s x → is_ascii_hexdigit b ≡ true → n ≡ s * 16 + digit_value b
    → length (x ++ b ∷ []) ≤ 16 → Shape line.Size n (x ++ b ∷ [])
more_digit b s n x h hex value few =
    let old = h.0 in
    let front = h.1 in
    let digits : x ≡ old.digits = front.text ∙ bare old.digits old.pad old.extension h.2 h.3 in
    let k : ChunkLine = record { digits = old.digits ++ b ∷ []; pad = []; extension = None } in
    let same : length (x ++ b ∷ []) ≡ length (old.digits ++ b ∷ []) = ap (λ (t : List ℕ). length (t ++ b ∷ [])) digits in (
      k,
      record {
        valid = record {
          digits = (
            omega (arith, length-append old.digits (b ∷ [])),
            omega arith,
            All-append (λ b. IsTrue (is_ascii_hexdigit b)) old.digits (b ∷ []) front.valid.digits.2 (All-cons (λ b. IsTrue (is_ascii_hexdigit b)) b [] hex (All-nil (λ b. IsTrue (is_ascii_hexdigit b)))),
          );
          pad = All-nil (λ b. IsTrue (is_ows b));
          extension = tt;
        };
        size = value ∙ ap (λ (m : ℕ). m * 16 + digit_value b) front.size ∙ sym (digits_value_after_push 16 0 old.digits b);
        text = ap (λ (t : List ℕ). t ++ b ∷ []) digits ∙ sym (append-nil (old.digits ++ b ∷ []));
      },
      refl,
      refl,
    )
  where
    bare : (a b : List ℕ) (e : Option (List ℕ)) → b ≡ [] → e ≡ None → a ++ (b ++ print_extension e) ≡ a
    bare a b e p q = ap (λ (b : List ℕ). a ++ (b ++ print_extension e)) p ∙ ap (λ (e : Option (List ℕ)). a ++ print_extension e) q ∙ append-nil a

more_pad : (k : ChunkLine) (b s : ℕ) (x : List ℕ) → Front k s x → k.extension ≡ None → is_ows b ≡ true → Shape line.Pad s (x ++ b ∷ [])
more_pad old b s x front none blank =
    let k : ChunkLine = record { digits = old.digits; pad = old.pad ++ b ∷ []; extension = None } in (
      k,
      record {
        valid = record {
          digits = front.valid.digits;
          pad = All-append (λ b. IsTrue (is_ows b)) old.pad (b ∷ []) front.valid.pad (All-cons (λ b. IsTrue (is_ows b)) b [] blank (All-nil (λ b. IsTrue (is_ows b))));
          extension = tt;
        };
        size = front.size;
        text = ap (λ (t : List ℕ). t ++ b ∷ []) (front.text ∙ ap (λ (e : Option (List ℕ)). old.digits ++ (old.pad ++ print_extension e)) none)
            ∙ regroup old.digits old.pad (b ∷ []);
      },
      refl,
    )
  where
    regroup : (a b c : List ℕ) → (a ++ (b ++ [])) ++ c ≡ a ++ ((b ++ c) ++ [])
    regroup a b c = simp (append_assoc, append-nil)

first_extension : (k : ChunkLine) (s : ℕ) (x : List ℕ) → Front k s x → k.extension ≡ None → Shape line.Extension s (x ++ 59 ∷ [])
first_extension old s x front none =
    let k : ChunkLine = record { digits = old.digits; pad = old.pad; extension = Some [] } in (
      k,
      [],
      record {
        valid = record { digits = front.valid.digits; pad = front.valid.pad; extension = All-nil (λ b. IsTrue (is_extension_byte b)) };
        size = front.size;
        text = ap (λ (t : List ℕ). t ++ 59 ∷ []) (front.text ∙ ap (λ (e : Option (List ℕ)). old.digits ++ (old.pad ++ print_extension e)) none)
            ∙ regroup old.digits old.pad (59 ∷ []);
      },
      refl,
    )
  where
    regroup : (a b c : List ℕ) → (a ++ (b ++ [])) ++ c ≡ a ++ (b ++ c)
    regroup a b c = simp (append_assoc, append-nil)

more_extension : (b s : ℕ) (x : List ℕ) → Shape line.Extension s x → is_extension_byte b ≡ true → Shape line.Extension s (x ++ b ∷ [])
more_extension b s x h plain =
    let old = h.0 in
    let e = h.1 in
    let front = h.2 in
    let k : ChunkLine = record { digits = old.digits; pad = old.pad; extension = Some (e ++ b ∷ []) } in (
      k,
      e ++ b ∷ [],
      record {
        valid = record {
          digits = front.valid.digits;
          pad = front.valid.pad;
          extension = All-append (λ b. IsTrue (is_extension_byte b)) e (b ∷ []) (subst IsExtension h.3 front.valid.extension) (All-cons (λ b. IsTrue (is_extension_byte b)) b [] plain (All-nil (λ b. IsTrue (is_extension_byte b))));
        };
        size = front.size;
        text = ap (λ (t : List ℕ). t ++ b ∷ []) (front.text ∙ ap (λ (e : Option (List ℕ)). old.digits ++ (old.pad ++ print_extension e)) h.3)
            ∙ regroup old.digits old.pad e (b ∷ []);
      },
      refl,
    )
  where
    regroup : (a b e c : List ℕ) → (a ++ (b ++ (59 ∷ e))) ++ c ≡ a ++ (b ++ (59 ∷ (e ++ c)))
    regroup a b e c = simp append_assoc

-- ---- one more octet

AtPlace : (LinePlace → Type 0) → Option LinePlace → Type 0
AtPlace P None = Unit {0}
AtPlace P (Some p) = P p

same_place : (P : LinePlace → Type 0) (p q : LinePlace) → P p → Some p ≡ Some q → P q
unfolding AtPlace
same_place P p q h e = subst (AtPlace P) e h

after_shape : (k : ChunkLine) (q : LinePlace) (b s : ℕ) (x : List ℕ) → Front k s x → k.extension ≡ None → after_size b ≡ Some q
    → Shape q s (x ++ b ∷ [])
after_shape k q b s x front none next = blank (is_ows b) refl next
  where
    give : (p : LinePlace) → Shape p s (x ++ b ∷ []) → Some p ≡ Some q → Shape q s (x ++ b ∷ [])
    give p h e = same_place (λ (r : LinePlace). Shape r s (x ++ b ∷ [])) p q h e

    is : (c : ℕ) → (b == c) ≡ true → c ≡ b
    is c e = grind (arith, nat_tests)

    return : (t : Bool) → (b == 13) ≡ t → cond t (Some line.Return) None ≡ Some q → Shape q s (x ++ b ∷ [])
    return true e next = give line.Return (subst (λ (c : ℕ). Shape line.Return s (x ++ c ∷ [])) (is 13 e) (front_cr k s x front)) next
    return false e next = absurd (cc)

    semicolon : (t : Bool) → (b == 59) ≡ t → cond t (Some line.Extension) (cond (b == 13) (Some line.Return) None) ≡ Some q
        → Shape q s (x ++ b ∷ [])
    semicolon true e next = give line.Extension (subst (λ (c : ℕ). Shape line.Extension s (x ++ c ∷ [])) (is 59 e) (first_extension k s x front none)) next
    semicolon false e next = return (b == 13) refl next

    blank : (t : Bool) → is_ows b ≡ t
        → cond t (Some line.Pad) (cond (b == 59) (Some line.Extension) (cond (b == 13) (Some line.Return) None)) ≡ Some q
        → Shape q s (x ++ b ∷ [])
    blank true e next = give line.Pad (more_pad k b s x front none e) next
    blank false e next = semicolon (b == 59) refl next

pub shape_step : (p q : LinePlace) (s b : ℕ) (x : List ℕ) → Shape p s x → next_place p b ≡ Some q
    → digits_at q (length (x ++ b ∷ [])) ≤ 16 → Shape q (next_size p s b) (x ++ b ∷ [])
shape_step line.Start q s b x h next few = by (is_ascii_hexdigit b) refl next
  where
    by : (t : Bool) → is_ascii_hexdigit b ≡ t → cond t (Some line.Size) None ≡ Some q → Shape q (with_digit s b) (x ++ b ∷ [])
    by true e next =
        let value : with_digit s b ≡ 0 * 16 + digit_value b = ap (λ (t : Bool). cond t (s * 16 + digit_value b) s) e ∙ ap (λ (s : ℕ). s * 16 + digit_value b) h.1 in
        let one : Shape line.Size (with_digit s b) (x ++ b ∷ []) = subst (λ (x : List ℕ). Shape line.Size (with_digit s b) (x ++ b ∷ [])) (sym h.0) (first_digit b (with_digit s b) e value) in
        same_place (λ (r : LinePlace). Shape r (with_digit s b) (x ++ b ∷ [])) line.Size q one next
    by false e next = absurd (cc)
shape_step line.Size q s b x h next few = by (is_ascii_hexdigit b) refl next
  where
    by : (t : Bool) → is_ascii_hexdigit b ≡ t → cond t (Some line.Size) (after_size b) ≡ Some q → Shape q (with_digit s b) (x ++ b ∷ [])
    by true e next =
        let value : with_digit s b ≡ s * 16 + digit_value b = ap (λ (t : Bool). cond t (s * 16 + digit_value b) s) e in
        let short : length (x ++ b ∷ []) ≤ 16 = same_place (λ (r : LinePlace). digits_at r (length (x ++ b ∷ [])) ≤ 16) q line.Size few (sym next) in
        same_place (λ (r : LinePlace). Shape r (with_digit s b) (x ++ b ∷ [])) line.Size q (more_digit b s (with_digit s b) x h e value short) next
    by false e next =
        let value : with_digit s b ≡ s = ap (λ (t : Bool). cond t (s * 16 + digit_value b) s) e in
        subst (λ (n : ℕ). Shape q n (x ++ b ∷ [])) (sym value) (after_shape h.0 q b s x h.1 h.3 next)
shape_step line.Pad q s b x h next few = after_shape h.0 q b s x h.1 h.2 next
shape_step line.Extension q s b x h next few = by (is_extension_byte b) refl
  where
    is : (b == 13) ≡ true → 13 ≡ b
    is e = grind (arith, nat_tests)

    plain : is_extension_byte b ≡ true → next_place line.Extension b ≡ Some line.Extension
    plain e = grind (arith, nat_tests)

    other : is_extension_byte b ≡ false → (b ≡ 13) ⊎ (b ≡ 10)
    other e = grind (arith, nat_tests)

    give : (r : LinePlace) → Shape r s (x ++ b ∷ []) → Some r ≡ Some q → Shape q s (x ++ b ∷ [])
    give r h e = same_place (λ (r : LinePlace). Shape r s (x ++ b ∷ [])) r q h e

    by : (t : Bool) → is_extension_byte b ≡ t → Shape q s (x ++ b ∷ [])
    by true e = give line.Extension (more_extension b s x h e) (sym (plain e) ∙ next)
    by false e =
        elim (other e) [
          | inl same ↦
              give line.Return (subst (λ (c : ℕ). Shape line.Return s (x ++ c ∷ [])) (sym same) (front_cr h.0 s x h.2))
              (sym (ap (next_place line.Extension) same) ∙ next)
          | inr same ↦
              let none : None ≡ Some q = sym (ap (next_place line.Extension) same) ∙ next in
              absurd (cc)
        ]
shape_step line.Return q s b x h next few = absurd (cc)

pub seen_step : (p q : LinePlace) (s l b : ℕ) (x : List ℕ) → SeenLine p s l x → next_place p b ≡ Some q
    → fits_line q (next_size p s b) (l + 1) ≡ true → SeenLine q (next_size p s b) (l + 1) (x ++ b ∷ [])
seen_step p q s l b x seen next fits =
    let count : length (x ++ b ∷ []) ≡ l + 1 = omega (arith, length-append x (b ∷ []), seen.count) in
    let most = limits q (next_size p s b) (l + 1) fits in
    record {
      count = count;
      fits = fits;
      shape = shape_step p q s b x seen.shape next (subst (λ (n : ℕ). digits_at q n ≤ 16) (sym count) most.2);
    }

-- ---- it can end

-- the octets that end the line
pub record Ending (s : ℕ) (x : List ℕ) : Type 0 where
  pub whole : ChunkLine
  pub rest : List ℕ
  pub is_line : IsLine whole
  pub size : chunk_size whole ≡ s
  pub text : print_chunk_line whole ≡ x ++ rest

from_front : (p : LinePlace) (k : ChunkLine) (s l : ℕ) (x : List ℕ) → fits_line p s l ≡ true → length x ≡ l
    → least_line p ≡ 2 → Front k s x → Ending s x
unfolding front_cr
from_front p k s l x fits count two front =
    let most = limits p s l fits in
    let cr = front_cr k s x front in
    let text : print_chunk_line k ≡ x ++ 13 ∷ 10 ∷ [] = cr.3 ∙ append_assoc x (13 ∷ []) (10 ∷ []) in
    let len = ap length text in
    record {
      whole = k;
      rest = 13 ∷ 10 ∷ [];
      is_line = record { valid = front.valid; short = omega (arith, len, length-append x (13 ∷ 10 ∷ [])); size = omega (arith, front.size) };
      size = sym front.size;
      text = text;
    }

pub ending : (p : LinePlace) (s l : ℕ) (x : List ℕ) → SeenLine p s l x → Ending s x
ending line.Start s l x seen =
    let k : ChunkLine = record { digits = 48 ∷ []; pad = []; extension = None } in
    let text : print_chunk_line k ≡ 48 ∷ 13 ∷ 10 ∷ [] = sym (append-nil (print_chunk_line k)) ∙ line_text k [] in
    let len = ap length text in
    record {
      whole = k;
      rest = 48 ∷ 13 ∷ 10 ∷ [];
      is_line = record {
        valid = record {
          digits = (omega arith, omega arith, All-cons (λ b. IsTrue (is_ascii_hexdigit b)) 48 [] refl (All-nil (λ b. IsTrue (is_ascii_hexdigit b))));
          pad = All-nil (λ b. IsTrue (is_ows b));
          extension = tt;
        };
        short = omega (arith, len);
        size = omega arith;
      };
      size = sym seen.shape.1;
      text = text ∙ ap (λ (t : List ℕ). t ++ 48 ∷ 13 ∷ 10 ∷ []) (sym seen.shape.0);
    }
ending line.Size s l x seen = from_front line.Size seen.shape.0 s l x seen.fits seen.count refl seen.shape.1
ending line.Pad s l x seen = from_front line.Pad seen.shape.0 s l x seen.fits seen.count refl seen.shape.1
ending line.Extension s l x seen = from_front line.Extension seen.shape.0 s l x seen.fits seen.count refl seen.shape.2
ending line.Return s l x seen =
    let most = limits line.Return s l seen.fits in
    let len = ap length seen.shape.3 in
    record {
      whole = seen.shape.0;
      rest = 10 ∷ [];
      is_line = record { valid = seen.shape.1; short = omega (arith, len, length-append x (10 ∷ []), seen.count); size = omega (arith, seen.shape.2) };
      size = sym seen.shape.2;
      text = seen.shape.3;
    }

-- the octet that ends it
pub ended_by : (p : LinePlace) (s l b : ℕ) (x : List ℕ) → SeenLine p s l x → ends_line p b ≡ true
    → (k : ChunkLine) × IsLine k × (chunk_size k ≡ s) × (print_chunk_line k ≡ x ++ b ∷ [])
unfolding ending
ended_by line.Start s l b x seen ends = absurd (cc)
ended_by line.Size s l b x seen ends = absurd (cc)
ended_by line.Pad s l b x seen ends = absurd (cc)
ended_by line.Extension s l b x seen ends = absurd (cc)
ended_by line.Return s l b x seen ends =
    let e = ending line.Return s l x seen in
    let same : 10 ≡ b = grind (arith, nat_tests) in
    (e.whole, e.is_line, e.size, e.text ∙ ap (λ (c : ℕ). x ++ c ∷ []) same)

pub zero_ending : Ending 0 []
zero_ending = ending line.Start 0 0 [] (record { count = refl; fits = refl; shape = (refl, refl) })
