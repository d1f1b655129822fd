-- Heads of a stream: there is one way to read them, and what follows doesn't change it.
use Rattle.std.proofs.Common.{◌≡◌, ℕ, ◌+◌, ◌<◌, ◌≤◌, true, false, not, IsTrue, List, [], ◌∷◌, ◌++◌, length, drop, refl, sym, ap, ◌∙◌, subst, arith, append_assoc, append-nil, inl, inr, None}
use Rattle.std.proofs.lemmas.List.Elements.{All-cons, All-nil}
use Rattle.std.specs.Char.{is_ascii_digit}
use Rattle.std.proofs.lemmas.List.{drop-drop, length-append, length-drop}
use Rattle.std.specs.List.{flat_map, AllByRecursion}
use Rattle.httparse.specs.Grammar.{lf, is_value_byte, IsField, IsResponseHead, ResponseHead, print_response, print_blank, print_version}
use Rattle.httparse.proofs.GrammarLemmas.{response_unique, print_response-append}
use Rattle.wire_http.specs.declared.head.HeadInfo.{HeadInfo}
use Rattle.wire_http.specs.Heads.{IsHead, ReadsHead, is_interim, HasHeads}
use Rattle.wire_http.specs.Info.{HeadIs, NeverHasHead, MayBecomeHead}
use Rattle.wire_http.specs.Response.{HasNoHeads, HasBadHead, HasBadHeads}
use Rattle.load_core.specs.Final.{is_interim_status, HasPassed, IsFinal}

-- ---- one head

pub one_head : (bytes : List ℕ) (h k : ResponseHead) (r q : List ℕ) → ReadsHead bytes h r → ReadsHead bytes k q → (h ≡ k) × (r ≡ q)
one_head bytes h k r q x y = response_unique bytes h k r q (x.is_head.valid, x.text) (y.is_head.valid, y.text)

-- the same of two heads in front of one list
one_front : (h k : ResponseHead) (r q : List ℕ) → IsHead h → IsHead k → print_response h ++ r ≡ print_response k ++ q → (h ≡ k) × (r ≡ q)
one_front h k r q x y e = one_head (print_response h ++ r) h k r q (record { is_head = x; text = refl }) (record { is_head = y; text = e })

-- ---- several

abbrev pub heads_text : List ResponseHead → List ℕ
heads_text hs = flat_map print_response hs

abbrev pub AreHeads : List ResponseHead → Type 0
AreHeads hs = AllByRecursion IsHead hs

abbrev pub AreInterim : List ResponseHead → Type 0
AreInterim hs = AllByRecursion (λ head. IsTrue (is_interim head)) hs

more_heads : (hs : List ResponseHead) (h : ResponseHead) → AreHeads hs → IsHead h → AreHeads (hs ++ h ∷ [])
more_heads [] h all x = (x, tt)
more_heads (k ∷ hs) h all x = (all.0, more_heads hs h all.1 x)

more_interim : (hs : List ResponseHead) (h : ResponseHead) → AreInterim hs → IsTrue (is_interim h) → AreInterim (hs ++ h ∷ [])
more_interim [] h all x = (x, tt)
more_interim (k ∷ hs) h all x = (all.0, more_interim hs h all.1 x)

more_text : (hs : List ResponseHead) (h : ResponseHead) (t : List ℕ)
    → heads_text (hs ++ h ∷ []) ++ t ≡ heads_text hs ++ (print_response h ++ t)
more_text [] h t = append_assoc (print_response h) [] t
more_text (k ∷ hs) h t =
    append_assoc (print_response k) (heads_text (hs ++ h ∷ [])) t
    ∙ ap (λ (u : List ℕ). print_response k ++ u) (more_text hs h t)
    ∙ sym (append_assoc (print_response k) (heads_text hs) (print_response h ++ t))

-- a final head isn't interim
not_both : (h k : ResponseHead) → h ≡ k → IsTrue (is_interim h) → IsTrue (not (is_interim k)) → ⊥
not_both h k e x y =
    let same : is_interim h ≡ is_interim k = ap is_interim e in
    let off : not (is_interim k) ≡ false = ap not (sym same ∙ x) in
    absurd (cc)

-- behind interim heads stands one more, or the final one
pub head_next : (hs is : List ResponseHead) (f : ResponseHead) (t rest : List ℕ) → AreHeads hs → AreInterim hs
    → AreHeads is → IsHead f → IsTrue (not (is_interim f)) → heads_text hs ++ t ≡ heads_text is ++ (print_response f ++ rest)
    → (h : ResponseHead) × (r : List ℕ) × ReadsHead t h r
head_next [] [] f t rest hv hi iv fv fi e = (f, rest, record { is_head = fv; text = e })
head_next [] (i ∷ is) f t rest hv hi iv fv fi e = (
  i,
  heads_text is ++ (print_response f ++ rest),
  record { is_head = iv.0; text = e ∙ append_assoc (print_response i) (heads_text is) (print_response f ++ rest) },
)
head_next (h ∷ hs) [] f t rest hv hi iv fv fi e =
    let same = one_front h f (heads_text hs ++ t) rest hv.0 fv (sym (append_assoc (print_response h) (heads_text hs) t) ∙ e) in
    absurd (not_both h f same.0 hi.0 fi)
head_next (h ∷ hs) (i ∷ is) f t rest hv hi iv fv fi e =
    let same = one_front h i (heads_text hs ++ t) (heads_text is ++ (print_response f ++ rest)) hv.0 iv.0
    (sym (append_assoc (print_response h) (heads_text hs) t) ∙ e ∙ append_assoc (print_response i) (heads_text is) (print_response f ++ rest)) in
    head_next hs is f t rest hv.1 hi.1 iv.1 fv fi same.1

-- the front of a head behind interim heads isn't bad
pub not_bad : (hs is : List ResponseHead) (t rest : List ℕ) → AreHeads hs → AreHeads is
    → ((h : ResponseHead) (r : List ℕ) → ¬ (ReadsHead t h r)) → MayBecomeHead t
    → heads_text hs ++ t ≡ heads_text is ++ rest → NeverHasHead rest → ⊥
not_bad [] [] t rest hv iv none may e never =
    never may.0 may.1 [] (subst (λ (u : List ℕ). ReadsHead (u ++ may.0) may.1 []) e may.2)
not_bad [] (i ∷ is) t rest hv iv none may e never =
    none i (heads_text is ++ rest) (record { is_head = iv.0; text = e ∙ append_assoc (print_response i) (heads_text is) rest })
not_bad (h ∷ hs) [] t rest hv iv none may e never =
    never [] h (heads_text hs ++ t)
    (record { is_head = hv.0; text = append-nil rest ∙ sym e ∙ append_assoc (print_response h) (heads_text hs) t })
not_bad (h ∷ hs) (i ∷ is) t rest hv iv none may e never =
    let same = one_front h i (heads_text hs ++ t) (heads_text is ++ rest) hv.0 iv.0
    (sym (append_assoc (print_response h) (heads_text hs) t) ∙ e ∙ append_assoc (print_response i) (heads_text is) rest) in
    not_bad hs is t rest hv.1 iv.1 none may same.1 never

-- ---- a walk over the heads

-- a head's length is within what it was read from
pub head_within : (bytes : List ℕ) (at n : ℕ) (head : ResponseHead) (info : HeadInfo) → at ≤ length bytes
    → HeadIs (drop at bytes) head info n → at + n ≤ length bytes
head_within bytes at n head info inside h =
    let long = ap length h.reads.text ∙ length-append (print_response head) (drop n (drop at bytes)) in
    omega (arith, long, length-drop at bytes, h.count)

pub passed-start : (bytes : List ℕ) → HasPassed bytes 0
passed-start bytes = record { interim = []; valid = tt; are_interim = tt; text = refl }

behind_head : (bytes : List ℕ) (at n : ℕ) (head : ResponseHead) (info : HeadInfo) → HeadIs (drop at bytes) head info n
    → drop at bytes ≡ print_response head ++ drop (at + n) bytes
behind_head bytes at n head info h = h.reads.text ∙ ap (λ (t : List ℕ). print_response head ++ t) (drop-drop n at bytes)

pub passed-more : (bytes : List ℕ) (at n : ℕ) (head : ResponseHead) (info : HeadInfo) → HasPassed bytes at
    → HeadIs (drop at bytes) head info n → is_interim_status info.status ≡ true → HasPassed bytes (at + n)
passed-more bytes at n head info p h interim =
    let on : is_interim head ≡ true = ap is_interim_status (sym h.says.status_is) ∙ interim in
    record {
      interim = p.interim ++ head ∷ [];
      valid = more_heads p.interim head p.valid h.reads.is_head;
      are_interim = more_interim p.interim head p.are_interim on;
      text = p.text ∙ ap (λ (t : List ℕ). heads_text p.interim ++ t) (behind_head bytes at n head info h)
          ∙ sym (more_text p.interim head (drop (at + n) bytes));
    }

final_short : (bytes a b c : List ℕ) → bytes ≡ a ++ (b ++ c) → length bytes ≤ 16384 → length a + length b ≤ 16384
final_short bytes a b c e short =
    let long = ap length e ∙ length-append a (b ++ c) in
    omega (arith, long, length-append b c)

pub passed-final : (bytes : List ℕ) (at n : ℕ) (head : ResponseHead) (info : HeadInfo) → HasPassed bytes at → at ≤ length bytes
    → length bytes ≤ 16384 → HeadIs (drop at bytes) head info n → is_interim_status info.status ≡ false → IsFinal bytes info (at + n)
passed-final bytes at n head info p inside short h final =
    let off : is_interim head ≡ false = ap is_interim_status (sym h.says.status_is) ∙ final in
    let all : bytes ≡ heads_text p.interim ++ (print_response head ++ drop (at + n) bytes) =
    p.text ∙ ap (λ (t : List ℕ). heads_text p.interim ++ t) (behind_head bytes at n head info h) in
    record {
      interim = p.interim;
      final = head;
      heads = record {
        valid = p.valid;
        are_interim = p.are_interim;
        final_valid = h.reads.is_head;
        is_final = ap not off;
        short = final_short bytes (heads_text p.interim) (print_response head) (drop (at + n) bytes) all short;
        text = all;
      };
      says = h.says;
      within = head_within bytes at n head info inside h;
    }

pub passed-no : (bytes : List ℕ) (at : ℕ) → HasPassed bytes at → ((h : ResponseHead) (r : List ℕ) → ¬ (ReadsHead (drop at bytes) h r))
    → HasNoHeads bytes
passed-no bytes at p none interim final rest heads =
    let next = head_next p.interim interim final (drop at bytes) rest p.valid p.are_interim heads.valid heads.final_valid heads.is_final
    (sym p.text ∙ heads.text) in
    none next.0 next.1 next.2

pub passed-may : (bytes : List ℕ) (at : ℕ) → HasPassed bytes at → ((h : ResponseHead) (r : List ℕ) → ¬ (ReadsHead (drop at bytes) h r))
    → MayBecomeHead (drop at bytes) → ¬ (HasBadHead bytes)
passed-may bytes at p none may bad =
    not_bad p.interim bad.interim (drop at bytes) bad.rest p.valid bad.valid none may (sym p.text ∙ bad.text) bad.never

pub passed-bad : (bytes : List ℕ) (at : ℕ) → HasPassed bytes at → NeverHasHead (drop at bytes) → HasBadHead bytes
passed-bad bytes at p never = record {
  interim = p.interim;
  valid = p.valid;
  are_interim = p.are_interim;
  rest = drop at bytes;
  text = p.text;
  never = never;
}

-- a head isn't empty
some_text : (p a b c : List ℕ) (x : ℕ) → p ++ [] ≡ a ++ (b ++ x ∷ c) → 0 < length p
some_text p a b c x e =
    let long = ap length e in
    omega (arith, long, length-append p [], length-append a (b ++ x ∷ c), length-append b (x ∷ c))

pub some_head : (h : ResponseHead) → 0 < length (print_response h)
some_head h = some_text (print_response h) (print_blank h.blank) (print_version h.minor) _ 32 (print_response-append h [])

-- one more interim head
pub look-interim : (bytes : List ℕ) (at n : ℕ) (head : ResponseHead) (info : HeadInfo) → HasPassed bytes at → at ≤ length bytes
    → HeadIs (drop at bytes) head info n → is_interim_status info.status ≡ true
    → (at < at + n) × (at + n ≤ length bytes) × HasPassed bytes (at + n)
look-interim bytes at n head info p inside h interim = (
  omega (arith, some_head head, h.count),
  head_within bytes at n head info inside h,
  passed-more bytes at n head info p h interim,
)

-- ---- what follows

pub heads-append : (s more : List ℕ) (is : List ResponseHead) (f : ResponseHead) (r : List ℕ) → HasHeads s is f r
    → HasHeads (s ++ more) is f (r ++ more)
heads-append s more is f r x = record {
  valid = x.valid;
  are_interim = x.are_interim;
  final_valid = x.final_valid;
  is_final = x.is_final;
  short = x.short;
  text = ap (λ (t : List ℕ). t ++ more) x.text ∙ append_assoc (heads_text is) (print_response f ++ r) more
      ∙ ap (λ (t : List ℕ). heads_text is ++ t) (append_assoc (print_response f) r more);
}

bad_head-append : (s more : List ℕ) → HasBadHead s → HasBadHead (s ++ more)
bad_head-append s more bad = record {
  interim = bad.interim;
  valid = bad.valid;
  are_interim = bad.are_interim;
  rest = bad.rest ++ more;
  text = ap (λ (t : List ℕ). t ++ more) bad.text ∙ append_assoc (heads_text bad.interim) bad.rest more;
  never = λ later h r x. bad.never (more ++ later) h r (subst (λ (t : List ℕ). ReadsHead t h r) (append_assoc bad.rest more later) x);
}

front_of : (a b c d : List ℕ) → a ++ b ≡ c ++ d → length c ≤ length a → (q : List ℕ) × (a ≡ c ++ q)
front_of a b [] d e h = (a, refl)
front_of [] b (y ∷ c) d e h = absurd (omega arith)
front_of (x ∷ a) b (y ∷ c) d e h =
    let first : x ≡ y = cc in
    let later : a ++ b ≡ c ++ d = cc in
    let w = front_of a b c d later (omega arith) in
    (w.0, cc (w.1))

no_heads-append : (s more : List ℕ) → 16384 ≤ length s → HasNoHeads s → HasNoHeads (s ++ more)
no_heads-append s more long none is f r x =
    let front = heads_text is ++ print_response f in
    let short : length front ≤ length s = omega (arith, long, x.short, length-append (heads_text is) (print_response f)) in
    let q = front_of s more front r (x.text ∙ sym (append_assoc (heads_text is) (print_response f) r)) short in
    none is f q.0
    (record {
      valid = x.valid;
      are_interim = x.are_interim;
      final_valid = x.final_valid;
      is_final = x.is_final;
      short = x.short;
      text = q.1 ∙ append_assoc (heads_text is) (print_response f) q.0;
    })

pub bad_heads-append : (s more : List ℕ) → HasBadHeads s → HasBadHeads (s ++ more)
bad_heads-append s more (inl bad) = inl (bad_head-append s more bad)
bad_heads-append s more (inr bad) = inr (omega (arith, bad.0, length-append s more), no_heads-append s more bad.0 bad.1)

-- ---- nothing yet

pub nothing-no : HasNoHeads []
nothing-no is f r x =
    let long = ap length x.text in
    absurd (omega (arith, long, length-append (heads_text is) (print_response f ++ r), length-append (print_response f) r, some_head f))

-- the shortest head
abbrev a_head : ResponseHead
a_head = record { blank = []; minor = 1; digits = 50 ∷ 48 ∷ 48 ∷ []; reason = None; line_end = lf; fields = []; last = lf }

abbrev IsDigit : ℕ → Type 0
IsDigit b = IsTrue (is_ascii_digit b)

a_head_valid : IsResponseHead a_head
a_head_valid = record {
  minor = omega arith;
  digits = (refl, All-cons IsDigit 50 (48 ∷ 48 ∷ []) refl (All-cons IsDigit 48 (48 ∷ []) refl (All-cons IsDigit 48 [] refl (All-nil IsDigit))));
  reason = All-nil (λ b. IsTrue (is_value_byte b));
  fields = All-nil IsField;
}

empty_end : (xs ys : List ℕ) → [] ≡ xs ++ ys → ys ≡ []
empty_end xs [] e = refl
empty_end xs (y ∷ ys) e =
    let long = ap length e in
    absurd (omega (arith, long, length-append xs (y ∷ ys)))

pub nothing-may : ¬ (HasBadHead [])
nothing-may bad =
    let none : bad.rest ≡ [] = empty_end (heads_text bad.interim) bad.rest bad.text in
    let few : length a_head.fields ≤ 64 = omega arith in
    bad.never (print_response a_head) a_head []
    (record {
      is_head = record { valid = a_head_valid; few = few };
      text = ap (λ (t : List ℕ). t ++ print_response a_head) none ∙ sym (append-nil (print_response a_head));
    })
