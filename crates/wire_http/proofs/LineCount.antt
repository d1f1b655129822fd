-- The field lines that have begun are those that no continuation can take back, and no more are needed.
use Rattle.std.proofs.Common.{◌≡◌, ◌≢◌, ◌⊎◌, inl, inr, ℕ, ◌+◌, ◌<◌, ◌≤◌, Bool, true, false, IsTrue, List, [], ◌∷◌, ◌++◌, length, get_or, take, drop, All, codes, refl, sym, ap, ◌∙◌, subst, Option, Some, None, arith, append_assoc, append-nil, zero-add, add-zero, take-append-drop, length-take, length-take-le}
use Rattle.std.proofs.lemmas.Bool.Decides.{nat_tests}
use Rattle.std.proofs.lemmas.List.{drop_more}
use Rattle.std.proofs.lemmas.Bool.{cases_lt}
use Rattle.std.proofs.lemmas.List.Elements.{All-cons, All-nil, All-head, All-tail, All-append, All-weaker, All-take, All-get_or}
use Rattle.std.proofs.lemmas.Grind.{flat_map-append}
use Rattle.std.specs.List.{flat_map}
use Rattle.std.specs.Char.{is_ascii_digit}
use Rattle.httparse.specs.Grammar.{is_token_byte, is_value_byte, AllPass, LineEnd, crlf, lf, print_end, print_blank, print_reason, reason_phrase, Field, IsField, print_field, ResponseHead, IsResponseHead, print_response, ReadsResponse, MayBecomeResponse}
use Rattle.httparse.proofs.GrammarLemmas.{print_response-append}
use Rattle.wire_http.specs.declared.lines.Place.{Place}
use Rattle.wire_http.specs.declared.lines.Place.TheVariants.{Before, Within, Start, After}
use Rattle.wire_http.specs.Begun.{next_place, begun_from, fields_begun}
use Rattle.wire_http.specs.Info.{NeverHasHead, MayBecomeHead}

-- ---- counting

pub begun_grows : (p : Place) (xs ys : List ℕ) → begun_from p xs ≤ begun_from p (xs ++ ys)
begun_grows p [] ys = omega arith
begun_grows p (x ∷ xs) ys =
    let later : begun_from (next_place p x) xs ≤ begun_from (next_place p x) (xs ++ ys) = begun_grows (next_place p x) xs ys in
    omega arith

abbrev NoFeed : List ℕ → Type 0
NoFeed text = All (λ b. b ≢ 10) text

within_line : (w t : List ℕ) → NoFeed w → begun_from Within (w ++ t) ≡ begun_from Within t
within_line [] t none = refl
within_line (b ∷ w) t none =
    let first : b ≢ 10 = All-head (λ b. b ≢ 10) b w none in
    let later : begun_from Within (w ++ t) ≡ begun_from Within t = within_line w t (All-tail (λ b. b ≢ 10) b w none) in
    grind (arith, nat_tests, first, later)

line_end : (e : LineEnd) (t : List ℕ) → begun_from Within (print_end e ++ t) ≡ begun_from Start t
line_end crlf t = omega arith
line_end lf t = omega arith

after_none : (t : List ℕ) → begun_from After t ≡ 0
after_none [] = refl
after_none (b ∷ t) =
    let later : begun_from After t ≡ 0 = after_none t in
    omega arith

last_line : (e : LineEnd) (t : List ℕ) → begun_from Start (print_end e ++ t) ≡ 0
last_line crlf t = omega (arith, after_none t)
last_line lf t = omega (arith, after_none t)

blank_lines : (ends : List LineEnd) (t : List ℕ) → begun_from Before (print_blank ends ++ t) ≡ begun_from Before t
blank_lines [] t = refl
blank_lines (crlf ∷ ends) t = omega (arith, blank_lines ends t)
blank_lines (lf ∷ ends) t = omega (arith, blank_lines ends t)

-- ---- what has no line feed

apart : (a : ℕ) → 10 < a → a ≢ 10
apart a h e = omega arith

clash : (test : ℕ → Bool) (b c : ℕ) → test c ≡ false → test b ≡ true → b ≢ c
clash test b c off on same =
    let e : test b ≡ test c = ap test same in
    cc

token_no_feed : (b : ℕ) → is_token_byte b ≡ true → b ≢ 10
unfolding is_token_byte
token_no_feed b token = clash is_token_byte b 10 refl token

token_no_return : (b : ℕ) → is_token_byte b ≡ true → b ≢ 13
unfolding is_token_byte
token_no_return b token = clash is_token_byte b 13 refl token

value_no_feed : (b : ℕ) → is_value_byte b ≡ true → b ≢ 10
value_no_feed b value = clash is_value_byte b 10 refl value

digit_no_feed : (b : ℕ) → is_ascii_digit b ≡ true → b ≢ 10
digit_no_feed b digit = clash is_ascii_digit b 10 refl digit

-- ---- field lines

begins_line : (b : ℕ) (t : List ℕ) → b ≢ 10 → b ≢ 13 → begun_from Start (b ∷ t) ≡ 1 + begun_from Within t
begins_line b t feed return = grind (arith, nat_tests, feed, return)

-- the text of a field line behind its first octet, up to the line end
abbrev line_rest : List ℕ → Field → List ℕ
line_rest ns f = ns ++ 58 ∷ f.raw

field_line : (f : Field) (t : List ℕ) → IsField f → begun_from Start (print_field f ++ t) ≡ 1 + begun_from Start t
field_line f t valid = by_name f.name refl
  where
    regroup : (name : List ℕ) (n : ℕ) (ns raw end t : List ℕ) → name ≡ n ∷ ns
        → (name ++ 58 ∷ raw ++ end) ++ t ≡ n ∷ ((ns ++ 58 ∷ raw) ++ (end ++ t))
    regroup name n ns raw end t e = rw e (simp append_assoc)

    by_name : (n : List ℕ) → f.name ≡ n → begun_from Start (print_field f ++ t) ≡ 1 + begun_from Start t
    by_name [] e =
        let some : 0 < length f.name = valid.name.0 in
        let none : length f.name ≡ 0 = ap length e in
        absurd (omega arith)
    by_name (n ∷ ns) e =
        let token : AllPass is_token_byte (n ∷ ns) = subst (AllPass is_token_byte) e valid.name.1 in
        let first : is_token_byte n ≡ true = All-head (λ b. IsTrue (is_token_byte b)) n ns token in
        let name_none : NoFeed ns = All-weaker (λ b. IsTrue (is_token_byte b)) (λ b. b ≢ 10) token_no_feed ns
        (All-tail (λ b. IsTrue (is_token_byte b)) n ns token) in
        let raw_none : NoFeed f.raw = All-weaker (λ b. IsTrue (is_value_byte b)) (λ b. b ≢ 10) value_no_feed f.raw valid.raw in
        let colon = apart 58 (omega arith) in
        let none : NoFeed (line_rest ns f) =
        All-append (λ b. b ≢ 10) ns (58 ∷ f.raw) name_none (All-cons (λ b. b ≢ 10) 58 f.raw colon raw_none) in
        let text : print_field f ++ t ≡ n ∷ (line_rest ns f ++ (print_end f.end ++ t)) =
        regroup f.name n ns f.raw (print_end f.end) t e in
        let line = begins_line n (line_rest ns f ++ (print_end f.end ++ t)) (token_no_feed n first) (token_no_return n first) in
        ap (begun_from Start) text ∙ line
        ∙ ap (λ (k : ℕ). 1 + k) (within_line (line_rest ns f) (print_end f.end ++ t) none ∙ line_end f.end t)

field_lines : (fs : List Field) (t : List ℕ) → All IsField fs
    → begun_from Start (flat_map print_field fs ++ t) ≡ length fs + begun_from Start t
field_lines [] t valid = sym (zero-add _)
field_lines (f ∷ fs) t valid =
    let later : begun_from Start (flat_map print_field fs ++ t) ≡ length fs + begun_from Start t =
    field_lines fs t (All-tail IsField f fs valid) in
    let line = field_line f (flat_map print_field fs ++ t) (All-head IsField f fs valid) in
    rw append_assoc (omega (arith, line))

-- ---- the start line

-- the status line behind `HTTP/1.`, up to the line end
abbrev status_rest : ResponseHead → List ℕ
status_rest h = (48 + h.minor) ∷ (32 ∷ (h.digits ++ print_reason h.reason))

-- the head up to its field lines
abbrev pub start_text : ResponseHead → List ℕ
start_text h = print_blank h.blank ++ (codes "HTTP/1." ++ (status_rest h ++ print_end h.line_end))

pub head_text : (h : ResponseHead) (t : List ℕ)
    → print_response h ++ t ≡ start_text h ++ (flat_map print_field h.fields ++ (print_end h.last ++ t))
head_text h t =
    print_response-append h t
    ∙ regroup (print_blank h.blank) h.digits (print_reason h.reason) (print_end h.line_end) (flat_map print_field h.fields)
    (print_end h.last) t (48 + h.minor)
  where
    regroup : (blank digits reason end fields last t : List ℕ) (m : ℕ)
        → blank ++ (codes "HTTP/1." ++ (m ∷ 32 ∷ (digits ++ (reason ++ (end ++ ((fields ++ last) ++ t))))))
        ≡ (blank ++ (codes "HTTP/1." ++ (m ∷ 32 ∷ (digits ++ reason) ++ end))) ++ (fields ++ (last ++ t))
    regroup blank digits reason end fields last t m = simp append_assoc

reason_no_feed : (r : Option (List ℕ)) → AllPass is_value_byte (reason_phrase r) → NoFeed (print_reason r)
reason_no_feed None valid = All-nil (λ b. b ≢ 10)
reason_no_feed (Some phrase) valid =
    let space = apart 32 (omega arith) in
    All-cons (λ b. b ≢ 10) 32 phrase space
    (All-weaker (λ b. IsTrue (is_value_byte b)) (λ b. b ≢ 10) value_no_feed phrase valid)

status_no_feed : (h : ResponseHead) → IsResponseHead h → NoFeed (status_rest h)
status_no_feed h valid =
    let digits : NoFeed h.digits = All-weaker (λ b. IsTrue (is_ascii_digit b)) (λ b. b ≢ 10) digit_no_feed h.digits valid.digits.1 in
    let space = apart 32 (omega arith) in
    let minor = apart (48 + h.minor) (omega arith) in
    All-cons (λ b. b ≢ 10) (48 + h.minor) (32 ∷ (h.digits ++ print_reason h.reason)) minor (All-cons (λ b. b ≢ 10) 32 (h.digits ++ print_reason h.reason) space
    (All-append (λ b. b ≢ 10) h.digits (print_reason h.reason) digits (reason_no_feed h.reason valid.reason)))

protocol : (t : List ℕ) → begun_from Before (codes "HTTP/1." ++ t) ≡ begun_from Within t
protocol t = omega arith

pub start_line : (h : ResponseHead) (t : List ℕ) → IsResponseHead h → begun_from Before (start_text h ++ t) ≡ begun_from Start t
start_line h t valid =
    ap (begun_from Before) (append_assoc (print_blank h.blank) (codes "HTTP/1." ++ (status_rest h ++ print_end h.line_end)) t)
    ∙ blank_lines h.blank (codes "HTTP/1." ++ ((status_rest h ++ print_end h.line_end) ++ t))
    ∙ protocol ((status_rest h ++ print_end h.line_end) ++ t)
    ∙ ap (begun_from Within) (append_assoc (status_rest h) (print_end h.line_end) t)
    ∙ within_line (status_rest h) (print_end h.line_end ++ t) (status_no_feed h valid)
    ∙ line_end h.line_end t

-- ---- the whole head

pub whole_count : (h : ResponseHead) (rest : List ℕ) → IsResponseHead h → fields_begun (print_response h ++ rest) ≡ length h.fields
whole_count h rest valid =
    ap (begun_from Before) (head_text h rest)
    ∙ start_line h (flat_map print_field h.fields ++ (print_end h.last ++ rest)) valid
    ∙ field_lines h.fields (print_end h.last ++ rest) valid.fields
    ∙ ap (λ (k : ℕ). length h.fields + k) (last_line h.last rest)
    ∙ add-zero _

-- whatever follows, a head at the front has the fields that have begun
pub begun_fields : (bytes more : List ℕ) (h : ResponseHead) (rest : List ℕ) → ReadsResponse (bytes ++ more) h rest
    → fields_begun bytes ≤ length h.fields
begun_fields bytes more h rest reads =
    subst (λ (n : ℕ). fields_begun bytes ≤ n)
    (ap (begun_from Before) reads.1 ∙ whole_count h rest reads.0)
    (begun_grows Before bytes more)

-- ---- a continuation of as few fields

-- where two splits of one list part
cut : (a b c d : List ℕ) → a ++ b ≡ c ++ d
    → ((q : List ℕ) × (a ++ q ≡ c)) ⊎ ((x : ℕ) × (q : List ℕ) × (a ≡ c ++ x ∷ q) × ((x ∷ q) ++ b ≡ d))
cut [] b c d e = inl (c, refl)
cut (x ∷ a) b [] d e = inr (x, a, refl, e)
cut (x ∷ a) b (y ∷ c) d e =
    let first : x ≡ y = cc in
    let later : a ++ b ≡ c ++ d = cc in
    elim (cut a b c d later) [
      | inl w ↦ inl (w.0, cc (w.1))
      | inr w ↦ inr (w.0, w.1, cc (w.2), w.3)
    ]

-- the head with its first fields alone
abbrev pub shorter : ResponseHead → ℕ → ResponseHead
shorter h n = record h { fields = take n h.fields }

shorter_valid : (h : ResponseHead) (n : ℕ) → IsResponseHead h → IsResponseHead (shorter h n)
shorter_valid h n valid = record {
  minor = valid.minor;
  digits = valid.digits;
  reason = valid.reason;
  fields = All-take IsField n h.fields valid.fields;
}

-- a field line begins with an octet of its name
first_octet : (f : Field) (x : ℕ) (t u : List ℕ) → IsField f → x ∷ t ≡ print_field f ++ u → (x ≢ 10) × (x ≢ 13)
first_octet f x t u valid e = by_name f.name refl
  where
    by_name : (n : List ℕ) → f.name ≡ n → (x ≢ 10) × (x ≢ 13)
    by_name [] none =
        let some : 0 < length f.name = valid.name.0 in
        let zero_long : length f.name ≡ 0 = ap length none in
        absurd (omega arith)
    by_name (n ∷ ns) name =
        let token : AllPass is_token_byte (n ∷ ns) = subst (AllPass is_token_byte) name valid.name.1 in
        let first : is_token_byte n ≡ true = All-head (λ b. IsTrue (is_token_byte b)) n ns token in
        let text : x ∷ t ≡ n ∷ (ns ++ 58 ∷ f.raw ++ print_end f.end ++ u) =
        e ∙ ap (λ (w : List ℕ). (w ++ 58 ∷ f.raw ++ print_end f.end) ++ u) name in
        let same : x ≡ n = cc in
        let passes : is_token_byte x ≡ true = ap is_token_byte same ∙ first in
        (token_no_feed x passes, token_no_return x passes)

-- up to the first n fields
abbrev front_text : ResponseHead → ℕ → List ℕ
front_text h n = start_text h ++ flat_map print_field (take n h.fields)

front_count : (h : ResponseHead) (n : ℕ) (t : List ℕ) → IsResponseHead h → n ≤ length h.fields
    → fields_begun (front_text h n ++ t) ≡ n + begun_from Start t
front_count h n t valid few =
    let count : length (take n h.fields) ≡ n = length-take-le n h.fields few in
    ap (begun_from Before) (append_assoc (start_text h) (flat_map print_field (take n h.fields)) t)
    ∙ start_line h (flat_map print_field (take n h.fields) ++ t) valid
    ∙ field_lines (take n h.fields) t (All-take IsField n h.fields valid.fields)
    ∙ ap (λ (k : ℕ). k + begun_from Start t) count

head_split : (h : ResponseHead) (n : ℕ)
    → print_response h ++ [] ≡ front_text h n ++ (flat_map print_field (drop n h.fields) ++ (print_end h.last ++ []))
head_split h n =
    head_text h []
    ∙ ap (λ (t : List ℕ). start_text h ++ (t ++ (print_end h.last ++ [])))
    (ap (flat_map print_field) (sym (take-append-drop n h.fields)) ∙ flat_map-append print_field (take n h.fields) (drop n h.fields))
    ∙ regroup (start_text h) (flat_map print_field (take n h.fields)) (flat_map print_field (drop n h.fields)) (print_end h.last ++ [])
  where
    regroup : (a b c d : List ℕ) → a ++ ((b ++ c) ++ d) ≡ (a ++ b) ++ (c ++ d)
    regroup a b c d = simp append_assoc

-- nothing of the field n has come
served : (bytes q : List ℕ) (h : ResponseHead) (n : ℕ) → IsResponseHead h → bytes ++ q ≡ front_text h n
    → ReadsResponse (bytes ++ (q ++ print_end h.last)) (shorter h n) []
served bytes q h n valid e = (
  shorter_valid h n valid,
  sym (append_assoc bytes q (print_end h.last))
      ∙ ap (λ (t : List ℕ). t ++ print_end h.last) e
      ∙ append_assoc (start_text h) (flat_map print_field (take n h.fields)) (print_end h.last)
      ∙ ap (λ (t : List ℕ). start_text h ++ (flat_map print_field (take n h.fields) ++ t)) (sym (append-nil (print_end h.last)))
      ∙ sym (head_text (shorter h n) []),
)

-- something of the field n has come, so it has begun
overrun : (bytes more : List ℕ) (h : ResponseHead) (n : ℕ) (x : ℕ) (q : List ℕ) → IsResponseHead h → n < length h.fields
    → bytes ≡ front_text h n ++ x ∷ q
    → (x ∷ q) ++ more ≡ flat_map print_field (drop n h.fields) ++ (print_end h.last ++ []) → n < fields_begun bytes
overrun bytes more h n x q valid few e d =
    let none : Field = record { name = []; raw = []; end = lf } in
    let f = get_or h.fields n none in
    let field : IsField f = All-get_or IsField h.fields n none few valid.fields in
    let rest = flat_map print_field (drop (n + 1) h.fields) ++ (print_end h.last ++ []) in
    let text : x ∷ (q ++ more) ≡ print_field f ++ rest =
    d ∙ ap (λ (fs : List Field). flat_map print_field fs ++ (print_end h.last ++ [])) (drop_more h.fields n none few)
    ∙ append_assoc (print_field f) (flat_map print_field (drop (n + 1) h.fields)) (print_end h.last ++ []) in
    let first = first_octet f x (q ++ more) rest field text in
    let count = ap fields_begun e ∙ front_count h n (x ∷ q) valid (omega arith) in
    omega (arith, count, begins_line x q first.0 first.1)

-- a head needs no more fields than have begun
pub begun_serve : (bytes more : List ℕ) (h : ResponseHead) → ReadsResponse (bytes ++ more) h []
    → (added : List ℕ) × (k : ResponseHead) × ReadsResponse (bytes ++ added) k [] × (length k.fields ≤ fields_begun bytes)
begun_serve bytes more h reads =
    let n = fields_begun bytes in
    elim (cases_lt n (length h.fields)) [
      | inr few ↦ (more, h, reads, few)
      | inl some ↦
          elim (cut bytes more (front_text h n) _ (reads.1 ∙ head_split h n)) [
            | inl w ↦ (w.0 ++ print_end h.last, shorter h n, served bytes w.0 h n reads.0 w.1, omega (arith, length-take n h.fields))
            | inr w ↦ absurd (omega (arith, overrun bytes more h n w.0 w.1 reads.0 some w.2 w.3))
          ]
    ]

-- ---- at most 64 fields

pub may_become : (bytes : List ℕ) → MayBecomeResponse bytes → fields_begun bytes ≤ 64 → MayBecomeHead bytes
may_become bytes may few =
    let found = begun_serve bytes may.0 may.1 may.2 in
    (found.0, found.1, record { is_head = record { valid = found.2.0; few = omega (arith, found.3) }; text = found.2.1 })

pub never_has : (bytes : List ℕ) → 64 < fields_begun bytes → NeverHasHead bytes
never_has bytes over more head rest reads =
    let begun = begun_fields bytes more head rest (reads.is_head.valid, reads.text) in
    omega (arith, begun, reads.is_head.few)
