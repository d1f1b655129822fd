-- A whole trailer is read to its end.
use Rattle.std.proofs.Common.{◌≡◌, ℕ, suc, ◌+◌, ◌≤◌, Bool, true, false, ◌==◌, nat_le, cond, List, [], ◌∷◌, ◌++◌, length, refl, sym, ap, ◌∙◌, subst, arith, append_assoc, length-append, Option, Some, None, IsTrue, All}
use Rattle.std.specs.List.{flat_map}
use Rattle.std.proofs.lemmas.Bool.{and_from}
use Rattle.std.proofs.lemmas.Bool.Decides.{nat_tests}
use Rattle.std.proofs.lemmas.List.Elements.{All-head, All-tail}
use Rattle.httparse.specs.Grammar.{AllPass, is_token_byte, is_value_byte, LineEnd, crlf, lf, print_end, Field, IsField, print_field}
use Rattle.wire_http.specs.declared.stage.Stage.TheVariants.{Done, Trailer}
use Rattle.wire_http.specs.declared.trailer.FieldPlace.{FieldPlace}
use Rattle.wire_http.specs.declared.trailer.FieldPlace.TheVariants as field
use Rattle.wire_http.specs.Chunked.{IsTrailer}
use Rattle.wire_http.specs.Stages.{walk, kept_trailer, fits_trailer, least_trailer, next_field_place, next_fields, ends_trailer}

le_true : (a b : ℕ) → a ≤ b → nat_le a b ≡ true
le_true a b h = grind (arith, nat_tests)

pub trailer_fits_from : (p : FieldPlace) (f l : ℕ) → l + least_trailer p ≤ 16384 → f ≤ 64 → fits_trailer p f l ≡ true
trailer_fits_from p f l long few = and_from _ _ (le_true (l + least_trailer p) 16384 long) (le_true f 64 few)

-- one octet
move : (p q : FieldPlace) (f g l m b : ℕ) (t : List ℕ) → ends_trailer p b ≡ false → next_field_place p b ≡ Some q
    → next_fields p f b ≡ g → m ≡ l + 1 → m + least_trailer q ≤ 16384 → g ≤ 64
    → walk (Trailer p f l) (b ∷ t) ≡ walk (Trailer q g m) t
move p q f g l m b t stays place count len long few =
    ap (λ (e : Bool). walk (cond e Done (kept_trailer (next_field_place p b) (next_fields p f b) (l + 1))) t) stays
    ∙ ap (λ (o : Option FieldPlace). walk (kept_trailer o (next_fields p f b) (l + 1)) t) place
    ∙ ap (λ (n : ℕ). walk (kept_trailer (Some q) n (l + 1)) t) count
    ∙ ap (λ (n : ℕ). walk (kept_trailer (Some q) g n) t) (sym len)
    ∙ ap (λ (c : Bool). walk (cond c (Trailer q g m) (kept_trailer None g m)) t) (trailer_fits_from q g m long few)

apart_from : (b k : ℕ) → is_token_byte b ≡ true → is_token_byte k ≡ false → (b == k) ≡ false
apart_from b k pass fails = by (b == k) refl
  where
    same : (b == k) ≡ true → b ≡ k
    same e = grind (arith, nat_tests)

    by : (t : Bool) → (b == k) ≡ t → t ≡ false
    by false e = refl
    by true e =
        let both : true ≡ false = sym pass ∙ ap is_token_byte (same e) ∙ fails in
        both

no_colon : is_token_byte 58 ≡ false
unfolding is_token_byte
no_colon = refl

no_return : is_token_byte 13 ≡ false
unfolding is_token_byte
no_return = refl

no_feed : is_token_byte 10 ≡ false
unfolding is_token_byte
no_feed = refl

name_place : (b : ℕ) → is_token_byte b ≡ true → next_field_place field.Name b ≡ Some field.Name
name_place b pass =
    ap (λ (t : Bool). cond t (Some field.Value) (cond (is_token_byte b) (Some field.Name) None)) (apart_from b 58 pass no_colon)
    ∙ ap (λ (t : Bool). cond t (Some field.Name) None) pass

start_place : (b : ℕ) → is_token_byte b ≡ true → next_field_place field.Start b ≡ Some field.Name
start_place b pass =
    ap (λ (t : Bool). cond t (Some field.Last) (cond (is_token_byte b) (Some field.Name) None)) (apart_from b 13 pass no_return)
    ∙ ap (λ (t : Bool). cond t (Some field.Name) None) pass

value_place : (b : ℕ) → is_value_byte b ≡ true → next_field_place field.Value b ≡ Some field.Value
value_place b pass = grind (arith, nat_tests)

name_walk : (ns t : List ℕ) (f l m : ℕ) → AllPass is_token_byte ns → m ≡ l + length ns + 1 → m + 2 ≤ 16384 → f ≤ 64
    → walk (Trailer field.Name f l) (ns ++ 58 ∷ t) ≡ walk (Trailer field.Value f m) t
name_walk [] t f l m all len long few = move field.Name field.Value f f l m 58 t refl refl refl (omega arith) long few
name_walk (b ∷ ns) t f l m all len long few =
    let first : is_token_byte b ≡ true = All-head (λ b. IsTrue (is_token_byte b)) b ns all in
    move field.Name field.Name f f l (l + 1) b (ns ++ 58 ∷ t) refl (name_place b first) refl refl (omega arith) few
    ∙ name_walk ns t f (l + 1) m (All-tail (λ b. IsTrue (is_token_byte b)) b ns all) (omega arith) long few

value_end : (e : LineEnd) (t : List ℕ) (f l m : ℕ) → m ≡ l + length (print_end e) → m + 1 ≤ 16384 → f ≤ 64
    → walk (Trailer field.Value f l) (print_end e ++ t) ≡ walk (Trailer field.Start f m) t
value_end lf t f l m len long few = move field.Value field.Start f f l m 10 t refl refl refl (omega arith) long few
value_end crlf t f l m len long few =
    move field.Value field.Return f f l (l + 1) 13 (10 ∷ t) refl refl refl refl (omega arith) few
    ∙ move field.Return field.Start f f (l + 1) m 10 t refl refl refl (omega arith) long few

value_walk : (raw : List ℕ) (e : LineEnd) (t : List ℕ) (f l m : ℕ) → AllPass is_value_byte raw
    → m ≡ l + length raw + length (print_end e) → m + 1 ≤ 16384 → f ≤ 64 → 1 ≤ length (print_end e)
    → walk (Trailer field.Value f l) (raw ++ (print_end e ++ t)) ≡ walk (Trailer field.Start f m) t
value_walk [] e t f l m all len long few some = value_end e t f l m (omega arith) long few
value_walk (b ∷ raw) e t f l m all len long few some =
    let first : is_value_byte b ≡ true = All-head (λ b. IsTrue (is_value_byte b)) b raw all in
    move field.Value field.Value f f l (l + 1) b (raw ++ (print_end e ++ t)) refl (value_place b first) refl refl (omega arith) few
    ∙ value_walk raw e t f (l + 1) m (All-tail (λ b. IsTrue (is_value_byte b)) b raw all) (omega arith) long few some

end_some : (e : LineEnd) → 1 ≤ length (print_end e)
end_some lf = omega arith
end_some crlf = omega arith

field_text : (d : Field) (t : List ℕ) → print_field d ++ t ≡ d.name ++ 58 ∷ (d.raw ++ (print_end d.end ++ t))
field_text d t = simp append_assoc

field_length : (d : Field) → length (print_field d) ≡ length d.name + 1 + length d.raw + length (print_end d.end)
field_length d =
    let text = ap length (field_text d []) in
    omega (
      arith,
      text,
      length-append (print_field d) [],
      length-append d.name (58 ∷ (d.raw ++ (print_end d.end ++ []))),
      length-append d.raw (print_end d.end ++ []),
      length-append (print_end d.end) [],
    )

field_walk : (d : Field) (t : List ℕ) (f l m : ℕ) → IsField d → m ≡ l + length (print_field d) → m + 1 ≤ 16384 → f + 1 ≤ 64
    → walk (Trailer field.Start f l) (print_field d ++ t) ≡ walk (Trailer field.Start (f + 1) m) t
field_walk d t f l m valid len long few = ap (walk (Trailer field.Start f l)) (field_text d t) ∙ by d.name refl
  where
    by : (ns : List ℕ) → d.name ≡ ns
        → walk (Trailer field.Start f l) (d.name ++ 58 ∷ (d.raw ++ (print_end d.end ++ t))) ≡ walk (Trailer field.Start (f + 1) m) t
    by [] e =
        let none : length d.name ≡ 0 = ap length e in
        absurd (omega (arith, valid.name.0))
    by (n ∷ ns) e =
        let token : AllPass is_token_byte (n ∷ ns) = subst (AllPass is_token_byte) e valid.name.1 in
        let first : is_token_byte n ≡ true = All-head (λ b. IsTrue (is_token_byte b)) n ns token in
        let count : length d.name ≡ suc (length ns) = ap length e in
        let whole = field_length d in
        let some = end_some d.end in
        let R = d.raw ++ (print_end d.end ++ t) in
        ap (λ (ns : List ℕ). walk (Trailer field.Start f l) (ns ++ 58 ∷ R)) e
        ∙ move field.Start field.Name f (f + 1) l (l + 1) n (ns ++ 58 ∷ R) (apart_from n 10 first no_feed) (start_place n first)
        (ap (λ (t : Bool). cond t f (f + 1)) (apart_from n 13 first no_return)) refl (omega arith) few
        ∙ name_walk ns R (f + 1) (l + 1) (l + 1 + length ns + 1) (All-tail (λ b. IsTrue (is_token_byte b)) n ns token) refl (omega arith) few
        ∙ value_walk d.raw d.end t (f + 1) (l + 1 + length ns + 1) m valid.raw (omega arith) long few some

fields_walk : (ds : List Field) (t : List ℕ) (f l m : ℕ) → All IsField ds → m ≡ l + length (flat_map print_field ds) → m + 1 ≤ 16384
    → f + length ds ≤ 64 → walk (Trailer field.Start f l) (flat_map print_field ds ++ t) ≡ walk (Trailer field.Start (f + length ds) m) t
fields_walk [] t f l m all len long few =
    let a : l ≡ m = omega arith in
    let b : f ≡ f + 0 = omega arith in
    ap (λ (l : ℕ). walk (Trailer field.Start f l) t) a ∙ ap (λ (f : ℕ). walk (Trailer field.Start f m) t) b
fields_walk (d ∷ ds) t f l m all len long few =
    let total : length (flat_map print_field (d ∷ ds)) ≡ length (print_field d) + length (flat_map print_field ds) =
    length-append (print_field d) (flat_map print_field ds) in
    let k = l + length (print_field d) in
    let same : f + 1 + length ds ≡ f + length (d ∷ ds) = omega arith in
    ap (walk (Trailer field.Start f l)) (append_assoc (print_field d) (flat_map print_field ds) t)
    ∙ field_walk d (flat_map print_field ds ++ t) f l k (All-head IsField d ds all) refl (omega arith) (omega arith)
    ∙ fields_walk ds t (f + 1) k m (All-tail IsField d ds all) (omega arith) long (omega arith)
    ∙ ap (λ (f : ℕ). walk (Trailer field.Start f m) t) same

last_walk : (e : LineEnd) (t : List ℕ) (f l : ℕ) → l + length (print_end e) ≤ 16384 → f ≤ 64
    → walk (Trailer field.Start f l) (print_end e ++ t) ≡ walk Done t
last_walk lf t f l long few = refl
last_walk crlf t f l long few = move field.Start field.Last f f l (l + 1) 13 (10 ∷ t) refl refl refl refl (omega arith) few

-- a trailer within its limits
pub trailer_walk : (trailer t : List ℕ) → IsTrailer trailer → walk (Trailer field.Start 0 0) (trailer ++ t) ≡ walk Done t
trailer_walk trailer t h =
    let fields = flat_map print_field h.fields in
    let len = ap length h.text_is in
    let total = length-append fields (print_end h.last) in
    let short = h.short in
    let few = h.few in
    let some = end_some h.last in
    ap (λ (x : List ℕ). walk (Trailer field.Start 0 0) (x ++ t)) h.text_is
    ∙ ap (walk (Trailer field.Start 0 0)) (append_assoc fields (print_end h.last) t)
    ∙ fields_walk h.fields (print_end h.last ++ t) 0 0 (0 + length fields) h.valid refl (omega arith) (omega arith)
    ∙ last_walk h.last t (0 + length h.fields) (0 + length fields) (omega arith) (omega arith)
