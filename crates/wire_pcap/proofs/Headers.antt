-- A capture's header as octets.
use Rattle.std.proofs.Common.{◌≡◌, ◌⊎◌, inl, inr, ℕ, ◌-◌, ◌<◌, ◌≤◌, min, Bool, true, false, List, [], ◌∷◌, ◌++◌, length, get_or, take, drop, refl, sym, ap, subst, ◌∙◌, arith, append_assoc, length-append, length-drop}
use Rattle.std.specs.Str.{bytes_eq}
use Rattle.std.proofs.lemmas.Bool.{cases_lt, false≢true}
use Rattle.std.proofs.lemmas.Slice.Eq.{bytes_eq-Decides}
use Rattle.std.proofs.lemmas.List.{drop-drop, take-append-drop, drop-append-le, length-take-le, take_at, take_all, drop_at, drop_all}
use Rattle.wire_pcap.specs.Grammar.{Order, Big, Little, Form, Resolution, Micros, Nanos, front_of, link_of, IsHeader}
use Rattle.wire_pcap.specs.Place.{HasNoHeader}
use Rattle.wire_pcap.specs.Marks.{Agree, HasMarks}
use Rattle.wire_pcap.specs.Reading.{IsHeaderFront}
use Rattle.wire_pcap.proofs.Numbers.{length-number_text}

pub length-front : (form : Form) → length (front_of form) ≡ 8
length-front form = simp (length-append, length-number_text) (omega arith)

pub length-link : (form : Form) → length (link_of form) ≡ 4
length-link form = length-number_text form.order 4 1

pub length-header : (form : Form) (header : List ℕ) → IsHeader form header → length header ≡ 24
length-header form header h =
    omega (arith, ap length h.text, length-append (front_of form) (h.free ++ link_of form), length-append h.free (link_of form), length-front form, length-link form, h.twelve)

-- as far as both go
take_least : (xs ys : List ℕ) (m : ℕ) → m ≡ min (length xs) (length ys) → (length xs < length ys) ⊎ (length ys ≤ length xs)
    → take m xs ≡ take (length ys) xs
take_least xs ys m e (inl less) = take_all m xs (omega (arith, e, less)) ∙ sym (take_all (length ys) xs (omega (arith, less)))
take_least xs ys m e (inr more) = ap (λ (n : ℕ). take n xs) (let same : m ≡ length ys = omega (arith, e, more) in same)

both_fronts : (xs ys : List ℕ) (m : ℕ) → m ≡ min (length xs) (length ys) → (take m xs ≡ take (length ys) xs) × (take m ys ≡ take (length xs) ys)
both_fronts xs ys m e = (
  take_least xs ys m e (cases_lt (length xs) (length ys)),
  take_least ys xs m (omega (arith, e)) (cases_lt (length ys) (length xs)),
)

pub agree_right : (xs ys : List ℕ) (m : ℕ) (same : Bool) → m ≡ min (length xs) (length ys) → same ≡ bytes_eq (take m xs) (take m ys)
    → same ≡ true → Agree xs ys
agree_right xs ys m same e is holds =
    let b = both_fronts xs ys m e in
    sym b.0 ∙ (bytes_eq-Decides (take m xs) (take m ys)).0 (sym is ∙ holds) ∙ b.1

pub agree_wrong : (xs ys : List ℕ) (m : ℕ) (same : Bool) → m ≡ min (length xs) (length ys) → same ≡ bytes_eq (take m xs) (take m ys)
    → same ≡ false → Agree xs ys → ⊥
agree_wrong xs ys m same e is fails a =
    let b = both_fronts xs ys m e in
    let holds : bytes_eq (take m xs) (take m ys) ≡ true = (bytes_eq-Decides (take m xs) (take m ys)).1 (b.0 ∙ a ∙ sym b.1) in
    false≢true (sym fails ∙ is ∙ holds)

-- fewer octets than stand before the link type have none of it
pub marks_short : (form : Form) (bytes : List ℕ) → length bytes ≤ 20 → Agree bytes (front_of form) → HasMarks form bytes
marks_short form bytes few front =
    let none : drop 20 bytes ≡ [] = drop_all 20 bytes few in
    record {
      front = front;
      link = subst (λ (t : List ℕ). Agree t (link_of form)) (sym none) (take_all (length (link_of form)) [] (omega arith));
    }

-- octets that go on as others do agree with them
agree_of : (xs ys more rest : List ℕ) → xs ++ more ≡ ys ++ rest → Agree xs ys
agree_of [] ys more rest e = take_all (length ys) [] (omega arith)
agree_of (x ∷ xs) [] more rest e = grind arith
agree_of (x ∷ xs) (y ∷ ys) more rest e =
    let first : x ≡ y = cc in
    let others : xs ++ more ≡ ys ++ rest = cc in
    let same = agree_of xs ys more rest others in
    ap (λ (n : ℕ). n ∷ take (length ys) xs) first ∙ ap (λ (t : List ℕ). y ∷ t) same

link_agrees : (form : Form) (bytes more free rest : List ℕ) → length free ≡ 12
    → bytes ++ more ≡ front_of form ++ (free ++ (link_of form ++ rest)) → (length bytes < 20) ⊎ (20 ≤ length bytes)
    → Agree (drop 20 bytes) (link_of form)
link_agrees form bytes more free rest twelve e (inl short) =
    let none : drop 20 bytes ≡ [] = drop_all 20 bytes (omega arith) in
    subst (λ (t : List ℕ). Agree t (link_of form)) (sym none) (take_all (length (link_of form)) [] (omega arith))
link_agrees form bytes more free rest twelve e (inr long) =
    let front : List ℕ = front_of form ++ free in
    let wide : length front ≡ 20 = omega (arith, length-append (front_of form) free, length-front form) in
    let whole : bytes ++ more ≡ front ++ (link_of form ++ rest) = e ∙ sym (append_assoc (front_of form) free (link_of form ++ rest)) in
    agree_of (drop 20 bytes) (link_of form) more rest
    (sym (drop-append-le 20 bytes more long) ∙ ap (drop 20) whole ∙ drop_at front (link_of form ++ rest) 20 wide)

-- what a header and what stands behind it have at their places
marks_of : (form : Form) (bytes more header rest : List ℕ) → IsHeader form header → bytes ++ more ≡ header ++ rest → HasMarks form bytes
marks_of form bytes more header rest h e =
    let parts : bytes ++ more ≡ front_of form ++ (h.free ++ (link_of form ++ rest)) =
    e ∙ ap (λ (t : List ℕ). t ++ rest) h.text ∙ append_assoc (front_of form) (h.free ++ link_of form) rest
    ∙ ap (λ (t : List ℕ). front_of form ++ t) (append_assoc h.free (link_of form) rest) in
    record {
      front = agree_of bytes (front_of form) more (h.free ++ (link_of form ++ rest)) parts;
      link = link_agrees form bytes more h.free rest h.twelve parts (cases_lt (length bytes) 20);
    }

-- where the marks aren't there, no header stands, however the octets go on
pub no_header : (form : Form) (bytes more : List ℕ) → (HasMarks form bytes → ⊥) → HasNoHeader form (bytes ++ more)
no_header form bytes more wrong header rest h e = wrong (marks_of form bytes more header rest h e)

-- nor where there are too few octets
pub short_header : (form : Form) (bytes : List ℕ) → length bytes < 24 → HasNoHeader form bytes
short_header form bytes short header rest h e =
    omega (arith, length-header form header h, ap length e, length-append header rest)

-- octets with all the marks are a header
pub header_of : (form : Form) (bytes : List ℕ) → 24 ≤ length bytes → HasMarks form bytes → IsHeader form (take 24 bytes)
header_of form bytes there m =
    let front = front_of form in
    let link = link_of form in
    let free = take 12 (drop 8 bytes) in
    let rest = drop 24 bytes in
    let len : (n : ℕ) → length (drop n bytes) ≡ length bytes - n = λ n. length-drop n bytes in
    let p1 : take 8 bytes ≡ front =
    ap (λ (n : ℕ). take n bytes) (sym (length-front form)) ∙ m.front ∙ take_all (length bytes) front (omega (arith, length-front form)) in
    let p2 : take 4 (drop 20 bytes) ≡ link =
    ap (λ (n : ℕ). take n (drop 20 bytes)) (sym (length-link form)) ∙ m.link
    ∙ take_all (length (drop 20 bytes)) link (omega (arith, length-link form, len 20)) in
    let q3 : drop 20 bytes ≡ link ++ rest =
    sym (take-append-drop 4 (drop 20 bytes)) ∙ ap (λ (t : List ℕ). t ++ drop 4 (drop 20 bytes)) p2
    ∙ ap (λ (t : List ℕ). link ++ t) (drop-drop 4 20 bytes) in
    let q2 : drop 8 bytes ≡ free ++ (link ++ rest) =
    sym (take-append-drop 12 (drop 8 bytes)) ∙ ap (λ (t : List ℕ). free ++ t) (drop-drop 12 8 bytes ∙ q3) in
    let q1 : bytes ≡ front ++ (free ++ (link ++ rest)) =
    sym (take-append-drop 8 bytes) ∙ ap (λ (t : List ℕ). t ++ drop 8 bytes) p1 ∙ ap (λ (t : List ℕ). front ++ t) q2 in
    let text = front ++ (free ++ link) in
    let whole : bytes ≡ text ++ rest =
    q1 ∙ ap (λ (t : List ℕ). front ++ t) (sym (append_assoc free link rest)) ∙ sym (append_assoc front (free ++ link) rest) in
    let twelve : length free ≡ 12 = length-take-le 12 (drop 8 bytes) (omega (arith, len 8)) in
    let long : length text ≡ 24 =
    omega (arith, length-append front (free ++ link), length-append free link, length-front form, length-link form) in
    record {
      free = free;
      twelve = twelve;
      text = ap (take 24) whole ∙ take_at text rest 24 long;
    }

-- octets that go as far as a longer text agree with it go on to it
goes_on : (xs ys : List ℕ) → Agree xs ys → length xs ≤ length ys → xs ++ drop (length xs) ys ≡ ys
goes_on xs ys e le =
    ap (λ (t : List ℕ). t ++ drop (length xs) ys) (sym (take_all (length ys) xs le) ∙ e) ∙ take-append-drop (length xs) ys

abbrev zeros : List ℕ
zeros = 0 ∷ 0 ∷ 0 ∷ 0 ∷ 0 ∷ 0 ∷ 0 ∷ 0 ∷ 0 ∷ 0 ∷ 0 ∷ 0 ∷ []

-- the octets end within the magic number and the version
within_front : (form : Form) (bytes : List ℕ) → length bytes ≤ 8 → HasMarks form bytes → IsHeaderFront form bytes
within_front form bytes few m =
    let front = front_of form in
    let link = link_of form in
    let rest = drop (length bytes) front in
    let text : bytes ++ (rest ++ (zeros ++ link)) ≡ front ++ (zeros ++ link) =
    sym (append_assoc bytes rest (zeros ++ link))
    ∙ ap (λ (t : List ℕ). t ++ (zeros ++ link)) (goes_on bytes front m.front (omega (arith, length-front form))) in
    record {
      more = rest ++ (zeros ++ link);
      short = omega arith;
      header = record { free = zeros; twelve = refl; text = text };
    }

front_is : (form : Form) (bytes : List ℕ) → 8 ≤ length bytes → HasMarks form bytes → bytes ≡ front_of form ++ drop 8 bytes
front_is form bytes there m =
    let front = front_of form in
    let p1 : take 8 bytes ≡ front =
    ap (λ (n : ℕ). take n bytes) (sym (length-front form)) ∙ m.front ∙ take_all (length bytes) front (omega (arith, length-front form)) in
    sym (take-append-drop 8 bytes) ∙ ap (λ (t : List ℕ). t ++ drop 8 bytes) p1

-- they end within the free octets
within_free : (form : Form) (bytes : List ℕ) → 8 ≤ length bytes → length bytes ≤ 20 → HasMarks form bytes → IsHeaderFront form bytes
within_free form bytes there few m =
    let front = front_of form in
    let link = link_of form in
    let there_free = drop 8 bytes in
    let others = take (20 - length bytes) zeros in
    let long : length others ≡ 20 - length bytes = length-take-le (20 - length bytes) zeros (omega arith) in
    let text : bytes ++ (others ++ link) ≡ front ++ ((there_free ++ others) ++ link) =
    ap (λ (t : List ℕ). t ++ (others ++ link)) (front_is form bytes there m)
    ∙ append_assoc front there_free (others ++ link)
    ∙ ap (λ (t : List ℕ). front ++ t) (sym (append_assoc there_free others link)) in
    record {
      more = others ++ link;
      short = omega arith;
      header = record {
        free = there_free ++ others;
        twelve = omega (arith, length-append there_free others, length-drop 8 bytes, long);
        text = text;
      };
    }

-- they end within the link type
within_link : (form : Form) (bytes : List ℕ) → 20 ≤ length bytes → length bytes < 24 → HasMarks form bytes → IsHeaderFront form bytes
within_link form bytes there few m =
    let front = front_of form in
    let link = link_of form in
    let free = take 12 (drop 8 bytes) in
    let tail = drop 20 bytes in
    let rest = drop (length tail) link in
    let len = length-drop 20 bytes in
    let behind : drop 8 bytes ≡ free ++ tail =
    sym (take-append-drop 12 (drop 8 bytes)) ∙ ap (λ (t : List ℕ). free ++ t) (drop-drop 12 8 bytes) in
    let text : bytes ++ rest ≡ front ++ (free ++ link) =
    ap (λ (t : List ℕ). t ++ rest) (front_is form bytes (omega arith) m)
    ∙ append_assoc front (drop 8 bytes) rest
    ∙ ap (λ (t : List ℕ). front ++ (t ++ rest)) behind
    ∙ ap (λ (t : List ℕ). front ++ t) (append_assoc free tail rest)
    ∙ ap (λ (t : List ℕ). front ++ (free ++ t)) (goes_on tail link m.link (omega (arith, len, length-link form))) in
    record {
      more = rest;
      short = few;
      header = record {
        free = free;
        twelve = length-take-le 12 (drop 8 bytes) (omega (arith, length-drop 8 bytes));
        text = text;
      };
    }

by_length : (form : Form) (bytes : List ℕ) → length bytes < 24 → HasMarks form bytes
    → (length bytes < 8) ⊎ (8 ≤ length bytes) → (length bytes < 20) ⊎ (20 ≤ length bytes) → IsHeaderFront form bytes
by_length form bytes short m (inl few) b = within_front form bytes (omega arith) m
by_length form bytes short m (inr there) (inl few) = within_free form bytes there (omega arith) m
by_length form bytes short m (inr there) (inr long) = within_link form bytes long short m

-- fewer octets with the marks that are due so far go on to a header
pub front_of_marks : (form : Form) (bytes : List ℕ) → length bytes < 24 → HasMarks form bytes → IsHeaderFront form bytes
front_of_marks form bytes short m = by_length form bytes short m (cases_lt (length bytes) 8) (cases_lt (length bytes) 20)

-- the first octets of a capture are its form's
pub front_at : (form : Form) (header rest bytes : List ℕ) → IsHeader form header → bytes ≡ header ++ rest → take 8 bytes ≡ front_of form
front_at form header rest bytes h e =
    let front = front_of form in
    let behind = h.free ++ link_of form in
    let text : bytes ≡ front ++ (behind ++ rest) = e ∙ ap (λ (t : List ℕ). t ++ rest) h.text ∙ append_assoc front behind rest in
    ap (take 8) text ∙ take_at front (behind ++ rest) 8 (length-front form)

abbrev form_with : Order → Resolution → Form
form_with order resolution = record { order = order; resolution = resolution }

one_pair : (o p : Order) (a b : Resolution) → get_or (front_of (form_with o a)) 0 0 ≡ get_or (front_of (form_with p b)) 0 0
    → get_or (front_of (form_with o a)) 2 0 ≡ get_or (front_of (form_with p b)) 2 0 → form_with o a ≡ form_with p b
one_pair Big Big Micros Micros x y = refl
one_pair Big Big Micros Nanos x y = absurd (omega (arith, y))
one_pair Big Big Nanos Micros x y = absurd (omega (arith, y))
one_pair Big Big Nanos Nanos x y = refl
one_pair Big Little Micros Micros x y = absurd (omega (arith, x))
one_pair Big Little Micros Nanos x y = absurd (omega (arith, x))
one_pair Big Little Nanos Micros x y = absurd (omega (arith, x))
one_pair Big Little Nanos Nanos x y = absurd (omega (arith, x))
one_pair Little Big Micros Micros x y = absurd (omega (arith, x))
one_pair Little Big Micros Nanos x y = absurd (omega (arith, x))
one_pair Little Big Nanos Micros x y = absurd (omega (arith, x))
one_pair Little Big Nanos Nanos x y = absurd (omega (arith, x))
one_pair Little Little Micros Micros x y = refl
one_pair Little Little Micros Nanos x y = absurd (omega (arith, x))
one_pair Little Little Nanos Micros x y = absurd (omega (arith, x))
one_pair Little Little Nanos Nanos x y = refl

-- no two forms have one front
pub one_form : (f g : Form) → front_of f ≡ front_of g → f ≡ g
one_form f g e =
    one_pair f.order g.order f.resolution g.resolution (ap (λ (t : List ℕ). get_or t 0 0) e) (ap (λ (t : List ℕ). get_or t 2 0) e)
