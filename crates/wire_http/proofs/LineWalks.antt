-- A whole chunk line is read to its end.
use Rattle.std.proofs.Common.{◌≡◌, ℕ, suc, ◌+◌, ◌*◌, ◌≤◌, ◌^◌, Bool, true, false, ◌==◌, nat_le, cond, List, [], ◌∷◌, ◌++◌, length, refl, sym, ap, ◌∙◌, subst, arith, append_assoc, length-append, Option, Some, None, IsTrue}
use Rattle.std.proofs.lemmas.Bool.{and_from}
use Rattle.std.proofs.lemmas.Bool.Decides.{nat_tests}
use Rattle.std.proofs.lemmas.List.Elements.{All-head, All-tail}
use Rattle.std.specs.Char.{is_ascii_hexdigit, digit_value}
use Rattle.std.specs.Str.Parse.{digits_value, digits_value_after}
use Rattle.httparse.specs.Grammar.{AllPass, is_ows, is_extension_byte, IsExtension, ChunkLine, chunk_size, print_extension, print_chunk_line}
use Rattle.wire_http.specs.declared.stage.Stage.TheVariants.{Line}
use Rattle.wire_http.specs.declared.chunk_line.LinePlace.{LinePlace}
use Rattle.wire_http.specs.declared.chunk_line.LinePlace.TheVariants as line
use Rattle.wire_http.specs.Chunked.{IsLine}
use Rattle.wire_http.specs.Stages.{walk, line_done, kept_line, fits_line, least_line, digits_at, next_place, after_size, next_size, ends_line}

le_true : (a b : ℕ) → a ≤ b → nat_le a b ≡ true
le_true a b h = grind (arith, nat_tests)

pub fits_from : (p : LinePlace) (s l : ℕ) → l + least_line p ≤ 256 → s ≤ 2 ^ 31 → digits_at p l ≤ 16 → fits_line p s l ≡ true
fits_from p s l long size few =
    and_from _ _ (le_true (l + least_line p) 256 long)
    (and_from _ _ (le_true s 2147483648 (omega arith)) (le_true (digits_at p l) 16 few))

-- one octet
move : (p q : LinePlace) (s k l b : ℕ) (t : List ℕ) → ends_line p b ≡ false → next_place p b ≡ Some q
    → next_size p s b ≡ k → l + 1 + least_line q ≤ 256 → k ≤ 2 ^ 31 → digits_at q (l + 1) ≤ 16
    → walk (Line p s l) (b ∷ t) ≡ walk (Line q k (l + 1)) t
move p q s k l b t stays place size long small few =
    ap (λ (e : Bool). walk (cond e (line_done s) (kept_line (next_place p b) (next_size p s b) (l + 1))) t) stays
    ∙ ap (λ (o : Option LinePlace). walk (kept_line o (next_size p s b) (l + 1)) t) place
    ∙ ap (λ (n : ℕ). walk (kept_line (Some q) n (l + 1)) t) size
    ∙ ap (λ (f : Bool). walk (cond f (Line q k (l + 1)) (kept_line None k (l + 1))) t) (fits_from q k (l + 1) long small few)

-- CR and LF
line_ends : (p : LinePlace) (s l : ℕ) (t : List ℕ) → ends_line p 13 ≡ false → next_place p 13 ≡ Some line.Return
    → next_size p s 13 ≡ s → l + 2 ≤ 256 → s ≤ 2 ^ 31 → walk (Line p s l) (13 ∷ 10 ∷ t) ≡ walk (line_done s) t
line_ends p s l t stays place size long small =
    move p line.Return s s l 13 (10 ∷ t) stays place size (omega arith) small (omega arith)

ext_place : (b : ℕ) → is_extension_byte b ≡ true → next_place line.Extension b ≡ Some line.Extension
ext_place b h = grind (arith, nat_tests)

ext_walk : (e t : List ℕ) (s l : ℕ) → AllPass is_extension_byte e → l + length e + 2 ≤ 256 → s ≤ 2 ^ 31
    → walk (Line line.Extension s l) (e ++ 13 ∷ 10 ∷ t) ≡ walk (line_done s) t
ext_walk [] t s l all long small = line_ends line.Extension s l t refl refl refl (omega arith) small
ext_walk (b ∷ e) t s l all long small =
    let first : is_extension_byte b ≡ true = All-head (λ b. IsTrue (is_extension_byte b)) b e all in
    move line.Extension line.Extension s s l b (e ++ 13 ∷ 10 ∷ t) refl (ext_place b first) refl (omega arith) small (omega arith)
    ∙ ext_walk e t s (l + 1) (All-tail (λ b. IsTrue (is_extension_byte b)) b e all) (omega arith) small

tail_size : (e : Option (List ℕ)) (t : List ℕ) (s l : ℕ) → IsExtension e → l + length (print_extension e) + 2 ≤ 256
    → s ≤ 2 ^ 31 → walk (Line line.Size s l) (print_extension e ++ 13 ∷ 10 ∷ t) ≡ walk (line_done s) t
tail_size None t s l all long small = line_ends line.Size s l t refl refl refl (omega arith) small
tail_size (Some e) t s l all long small =
    move line.Size line.Extension s s l 59 (e ++ 13 ∷ 10 ∷ t) refl refl refl (omega arith) small (omega arith)
    ∙ ext_walk e t s (l + 1) all (omega arith) small

tail_pad : (e : Option (List ℕ)) (t : List ℕ) (s l : ℕ) → IsExtension e → l + length (print_extension e) + 2 ≤ 256
    → s ≤ 2 ^ 31 → walk (Line line.Pad s l) (print_extension e ++ 13 ∷ 10 ∷ t) ≡ walk (line_done s) t
tail_pad None t s l all long small = line_ends line.Pad s l t refl refl refl (omega arith) small
tail_pad (Some e) t s l all long small =
    move line.Pad line.Extension s s l 59 (e ++ 13 ∷ 10 ∷ t) refl refl refl (omega arith) small (omega arith)
    ∙ ext_walk e t s (l + 1) all (omega arith) small

ows_place : (b : ℕ) → is_ows b ≡ true → after_size b ≡ Some line.Pad
ows_place b h = ap (λ (t : Bool). cond t (Some line.Pad) (cond (b == 59) (Some line.Extension) (cond (b == 13) (Some line.Return) None))) h

ows_no_digit : (b : ℕ) → is_ows b ≡ true → is_ascii_hexdigit b ≡ false
ows_no_digit b ows = grind (arith, nat_tests)

pad_walk : (pad : List ℕ) (e : Option (List ℕ)) (t : List ℕ) (s l : ℕ) → AllPass is_ows pad → IsExtension e
    → l + length pad + length (print_extension e) + 2 ≤ 256 → s ≤ 2 ^ 31
    → walk (Line line.Pad s l) (pad ++ (print_extension e ++ 13 ∷ 10 ∷ t)) ≡ walk (line_done s) t
pad_walk [] e t s l blank all long small = tail_pad e t s l all (omega arith) small
pad_walk (b ∷ pad) e t s l blank all long small =
    let first : is_ows b ≡ true = All-head (λ b. IsTrue (is_ows b)) b pad blank in
    move line.Pad line.Pad s s l b (pad ++ (print_extension e ++ 13 ∷ 10 ∷ t)) refl (ows_place b first) refl (omega arith) small (omega arith)
    ∙ pad_walk pad e t s (l + 1) (All-tail (λ b. IsTrue (is_ows b)) b pad blank) all (omega arith) small

size_walk : (pad : List ℕ) (e : Option (List ℕ)) (t : List ℕ) (s l : ℕ) → AllPass is_ows pad → IsExtension e
    → l + length pad + length (print_extension e) + 2 ≤ 256 → s ≤ 2 ^ 31
    → walk (Line line.Size s l) (pad ++ (print_extension e ++ 13 ∷ 10 ∷ t)) ≡ walk (line_done s) t
size_walk [] e t s l blank all long small = tail_size e t s l all (omega arith) small
size_walk (b ∷ pad) e t s l blank all long small =
    let first : is_ows b ≡ true = All-head (λ b. IsTrue (is_ows b)) b pad blank in
    let no = ows_no_digit b first in
    move line.Size line.Pad s s l b (pad ++ (print_extension e ++ 13 ∷ 10 ∷ t)) refl
    (ap (λ (t : Bool). cond t (Some line.Size) (after_size b)) no ∙ ows_place b first)
    (ap (λ (t : Bool). cond t (s * 16 + digit_value b) s) no) (omega arith) small (omega arith)
    ∙ pad_walk pad e t s (l + 1) (All-tail (λ b. IsTrue (is_ows b)) b pad blank) all (omega arith) small

pub grows : (ds : List ℕ) (n : ℕ) → n ≤ digits_value_after 16 n ds
grows [] n = omega arith
grows (d ∷ ds) n =
    let later : n * 16 + digit_value d ≤ digits_value_after 16 (n * 16 + digit_value d) ds = grows ds (n * 16 + digit_value d) in
    omega arith

digits_walk : (ds pad : List ℕ) (e : Option (List ℕ)) (t : List ℕ) (s l : ℕ) → AllPass is_ascii_hexdigit ds → AllPass is_ows pad
    → IsExtension e → l + length ds ≤ 16 → l + length ds + length pad + length (print_extension e) + 2 ≤ 256
    → digits_value_after 16 s ds ≤ 2 ^ 31
    → walk (Line line.Size s l) (ds ++ (pad ++ (print_extension e ++ 13 ∷ 10 ∷ t))) ≡ walk (line_done (digits_value_after 16 s ds)) t
digits_walk [] pad e t s l hex blank all few long small = size_walk pad e t s l blank all (omega arith) small
digits_walk (d ∷ ds) pad e t s l hex blank all few long small =
    let first : is_ascii_hexdigit d ≡ true = All-head (λ b. IsTrue (is_ascii_hexdigit b)) d ds hex in
    let n = s * 16 + digit_value d in
    let more : n ≤ digits_value_after 16 n ds = grows ds n in
    move line.Size line.Size s n l d (ds ++ (pad ++ (print_extension e ++ 13 ∷ 10 ∷ t))) refl
    (ap (λ (t : Bool). cond t (Some line.Size) (after_size d)) first)
    (ap (λ (t : Bool). cond t n s) first) (omega arith) (omega arith) (omega arith)
    ∙ digits_walk ds pad e t n (l + 1) (All-tail (λ b. IsTrue (is_ascii_hexdigit b)) d ds hex) blank all (omega arith) (omega arith) small

pub line_text : (k : ChunkLine) (t : List ℕ)
    → print_chunk_line k ++ t ≡ k.digits ++ (k.pad ++ (print_extension k.extension ++ 13 ∷ 10 ∷ t))
unfolding print_chunk_line
line_text k t = simp append_assoc

pub line_length : (k : ChunkLine)
    → length (print_chunk_line k) ≡ length k.digits + length k.pad + length (print_extension k.extension) + 2
line_length k =
    let text = ap length (line_text k []) in
    omega (
      arith,
      text,
      length-append (print_chunk_line k) [],
      length-append k.digits (k.pad ++ (print_extension k.extension ++ 13 ∷ 10 ∷ [])),
      length-append k.pad (print_extension k.extension ++ 13 ∷ 10 ∷ []),
      length-append (print_extension k.extension) (13 ∷ 10 ∷ []),
    )

-- a chunk line within its limits
pub line_walk : (k : ChunkLine) (t : List ℕ) → IsLine k → walk (Line line.Start 0 0) (print_chunk_line k ++ t) ≡ walk (line_done (chunk_size k)) t
line_walk k t is_line = ap (walk (Line line.Start 0 0)) (line_text k t) ∙ by k.digits refl
  where
    by : (ds : List ℕ) → k.digits ≡ ds
        → walk (Line line.Start 0 0) (k.digits ++ (k.pad ++ (print_extension k.extension ++ 13 ∷ 10 ∷ t)))
        ≡ walk (line_done (chunk_size k)) t
    by [] e =
        let none : length k.digits ≡ 0 = ap length e in
        absurd (omega (arith, is_line.valid.digits.0))
    by (d ∷ ds) e =
        let hex : AllPass is_ascii_hexdigit (d ∷ ds) = subst (AllPass is_ascii_hexdigit) e is_line.valid.digits.2 in
        let first : is_ascii_hexdigit d ≡ true = All-head (λ b. IsTrue (is_ascii_hexdigit b)) d ds hex in
        let len : length k.digits ≡ suc (length ds) = ap length e in
        let few = is_line.valid.digits.1 in
        let long = line_length k in
        let short = is_line.short in
        let n = 0 * 16 + digit_value d in
        let value : chunk_size k ≡ digits_value_after 16 n ds = ap (digits_value 16) e in
        let small : digits_value_after 16 n ds ≤ 2 ^ 31 = subst (λ (v : ℕ). v ≤ 2 ^ 31) value is_line.size in
        let more : n ≤ digits_value_after 16 n ds = grows ds n in
        let R = k.pad ++ (print_extension k.extension ++ 13 ∷ 10 ∷ t) in
        ap (λ (ds : List ℕ). walk (Line line.Start 0 0) (ds ++ R)) e
        ∙ move line.Start line.Size 0 n 0 d (ds ++ R) refl
        (ap (λ (t : Bool). cond t (Some line.Size) None) first)
        (ap (λ (t : Bool). cond t n 0) first) (omega arith) (omega arith) (omega arith)
        ∙ digits_walk ds k.pad k.extension t n (0 + 1) (All-tail (λ b. IsTrue (is_ascii_hexdigit b)) d ds hex) is_line.valid.pad is_line.valid.extension
        (omega arith) (omega arith) small
        ∙ ap (λ (v : ℕ). walk (line_done v) t) (sym value)
