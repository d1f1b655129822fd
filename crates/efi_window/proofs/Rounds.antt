-- Places of a ring: two runs of it, one up to its end and one from its front.
use Rattle.std.proofs.Common.{inl, inr, ◌∙◌, ◌≡◌, ℕ, ◌+◌, ◌-◌, ◌*◌, ◌/◌, ◌%◌, ◌<◌, ◌≤◌, Bool, true, false, List, length, get_or, take, drop, min, ap, sym, arith, ◌++◌}
use Rattle.std.proofs.Math.Nat.{add-mod_right, mod-le}
use Rattle.std.proofs.lemmas.Bool.{cases_lt}
use Rattle.std.proofs.lemmas.List.{get_or-take, get_or-drop, get_or_append_left, get_or-append_right, length-take, length-drop, length-append}
use Rattle.std.proofs.lemmas.Nat.{div-add-mod', mod-mul-add, mod_below}
use Rattle.efi_window.specs.Kept.{is_kept, IsPut, IsPlaced}

-- where a place stands that isn't past the ring's end, and where one that is
pub near : (place room i : ℕ) → place % room + i < room → (place + i) % room ≡ place % room + i
near place room i h =
    let e : place + i ≡ place / room * room + (place % room + i) = omega (arith, div-add-mod' place room) in
    ap (λ n. n % room) e ∙ mod-mul-add (place / room) room (place % room + i) h

pub far : (place room i : ℕ) → i < room → room ≤ place % room + i → (place + i) % room ≡ place % room + i - room
far place room i h k =
    let low : place % room < room = mod_below place room (omega arith) in
    let e : place + i ≡ place / room * room + (place % room + i - room) + room = omega (arith, div-add-mod' place room) in
    ap (λ n. n % room) e ∙ add-mod_right (place / room * room + (place % room + i - room)) room
    ∙ mod-mul-add (place / room) room (place % room + i - room) (omega arith)

-- something that holds of an index, told of a place
pub by-place : (f : ℕ → Bool) (v : Bool) (place room i : ℕ) → i < room
    → (place % room + i < room → f (place % room + i) ≡ v) → (room ≤ place % room + i → f (place % room + i - room) ≡ v)
    → f ((place + i) % room) ≡ v
by-place f v place room i h a b = elim (cases_lt (place % room + i) room) [
  | inl l ↦ ap f (near place room i l) ∙ a l
  | inr l ↦ ap f (far place room i h l) ∙ b l
]

pub number-by-place : (f : ℕ → ℕ) (v place room i : ℕ) → i < room
    → (place % room + i < room → f (place % room + i) ≡ v) → (room ≤ place % room + i → f (place % room + i - room) ≡ v)
    → f ((place + i) % room) ≡ v
number-by-place f v place room i h a b = elim (cases_lt (place % room + i) room) [
  | inl l ↦ ap f (near place room i l) ∙ a l
  | inr l ↦ ap f (far place room i h l) ∙ b l
]

-- the same of two sets
pub same-by-place : (f g : ℕ → Bool) (place room i : ℕ) → i < room
    → (place % room + i < room → f (place % room + i) ≡ g (place % room + i))
    → (room ≤ place % room + i → f (place % room + i - room) ≡ g (place % room + i - room))
    → f ((place + i) % room) ≡ g ((place + i) % room)
same-by-place f g place room i h a b = elim (cases_lt (place % room + i) room) [
  | inl l ↦ ap f (near place room i l) ∙ a l ∙ ap g (sym (near place room i l))
  | inr l ↦ ap f (far place room i h l) ∙ b l ∙ ap g (sym (far place room i h l))
]

-- two runs make what was put by place
pub placed : (place room first : ℕ) (bytes one two ring words mid mids now new : List ℕ) → 0 < room → length bytes ≤ room
    → first ≡ min (length bytes) (room - place % room) → one ≡ take first bytes → two ≡ drop first bytes
    → IsPut (place % room) (length one) one ring words mid mids → IsPut 0 (length two) two mid mids now new
    → IsPlaced room place bytes ring words now new
placed place room first bytes one two ring words mid mids now new some fits f e g p q =
    let at = place % room in
    let low : place % room < room = mod_below place room some in
    let m : length one ≡ first = ap length e ∙ omega (arith, length-take first bytes) in
    let n : length two ≡ length bytes - first = ap length g ∙ length-drop first bytes in
    let front : (i : ℕ) → i < first → get_or one i 0 ≡ get_or bytes i 0 = λ i h. ap (λ l. get_or l i 0) e ∙ get_or-take first bytes i 0 h in
    let rest : (i : ℕ) → get_or two i 0 ≡ get_or bytes (first + i) 0 = λ i. ap (λ l. get_or l i 0) g ∙ get_or-drop first bytes i 0 in
    record {
      ring_len = omega (arith, p.ring_len, q.ring_len);
      words_len = omega (arith, p.words_len, q.words_len);
      marked = λ i h. by-place (is_kept new) true place room i (omega arith)
          (λ l. (q.stays (place % room + i) (p.marked (place % room + i) (omega arith) (omega arith))).0)
          (λ l. q.marked (place % room + i - room) (omega arith) (omega arith));
      added = λ i h free. elim (cases_lt (place % room + i) room) [
        | inl l ↦
            let k = near place room i l in
            let was : is_kept words (place % room + i) ≡ false = ap (is_kept words) (sym k) ∙ free in
            let back : place % room + i - place % room ≡ i = omega arith in
            ap (λ j. get_or now j 0) k
            ∙ (q.stays (place % room + i) (p.marked (place % room + i) (omega arith) (omega arith))).1
            ∙ p.added (place % room + i) (omega arith) (omega arith) was
            ∙ ap (λ j. get_or one j 0) back ∙ front i (omega arith)
        | inr l ↦
            let k = far place room i (omega arith) l in
            let was : is_kept words (place % room + i - room) ≡ false = ap (is_kept words) (sym k) ∙ free in
            let back : first + (place % room + i - room - 0) ≡ i = omega arith in
            ap (λ j. get_or now j 0) k
            ∙ q.added (place % room + i - room) (omega arith) (omega arith) (p.below (place % room + i - room) (omega arith) ∙ was)
            ∙ rest (place % room + i - room - 0) ∙ ap (λ j. get_or bytes j 0) back
      ];
      stays = λ i h. ((q.stays i (p.stays i h).0).0, (q.stays i (p.stays i h).0).1 ∙ (p.stays i h).1);
      others = λ i h k. same-by-place (is_kept new) (is_kept words) place room i k
          (λ l. q.above (place % room + i) (omega arith) ∙ p.above (place % room + i) (omega arith))
          (λ l. q.above (place % room + i - room) (omega arith) ∙ p.below (place % room + i - room) (omega arith));
    }

-- two runs that were copied
pub copied : (place room count first second i : ℕ) (ring out rest : List ℕ) → min (place % room + count) room ≤ length ring → 0 < room
    → count ≤ room → first ≡ min count (room - place % room) → second ≡ count - first
    → out ≡ take first (drop (place % room) ring) ++ take second ring ++ rest → i < count
    → get_or out i 0 ≡ get_or ring ((place + i) % room) 0
copied place room count first second i ring out rest len some fits f s e h =
    let low : place % room < room = mod_below place room some in
    let m : length (take first (drop (place % room) ring)) ≡ first =
    omega (arith, length-take first (drop (place % room) ring), length-drop (place % room) ring) in
    let n : length (take second ring) ≡ second = omega (arith, length-take second ring) in
    let both : length (take first (drop (place % room) ring) ++ take second ring) ≡ count =
    length-append (take first (drop (place % room) ring)) (take second ring) ∙ omega (arith, m, n) in
    sym (number-by-place (λ j. get_or ring j 0) (get_or out i 0) place room i (omega arith)
    (λ l. sym (ap (λ o. get_or o i 0) e
    ∙ get_or_append_left (take first (drop (place % room) ring) ++ take second ring) rest 0 i (omega arith)
    ∙ get_or_append_left (take first (drop (place % room) ring)) (take second ring) 0 i (omega arith)
    ∙ get_or-take first (drop (place % room) ring) i 0 (omega arith)
    ∙ get_or-drop (place % room) ring i 0))
    (λ l.
    let back : i - first ≡ place % room + i - room = omega arith in
    sym (ap (λ o. get_or o i 0) e
    ∙ get_or_append_left (take first (drop (place % room) ring) ++ take second ring) rest 0 i (omega arith)
    ∙ get_or-append_right (take first (drop (place % room) ring)) (take second ring) first i 0 m (omega arith)
    ∙ get_or-take second ring (i - first) 0 (omega arith)
    ∙ ap (λ j. get_or ring j 0) back)))

-- a ring that is as long as it was used up to some places holds them, wherever they stand in it
pub up-to : (place room count len : ℕ) → min (place + count) room ≤ len → min (place % room + count) room ≤ len
up-to place room count len h = omega (arith, mod-le place room)

-- what holds all round holds of each index
pub all-round : (f : ℕ → Bool) (v : Bool) (place room k : ℕ) → k < room → ((i : ℕ) → i < room → f ((place + i) % room) ≡ v) → f k ≡ v
all-round f v place room k h e =
    let low : place % room < room = mod_below place room (omega arith) in
    elim (cases_lt k (place % room)) [
      | inl l ↦
          let back : place % room + (k + room - place % room) - room ≡ k = omega arith in
          ap f (sym (far place room (k + room - place % room) (omega arith) (omega arith) ∙ back)) ∙ e (k + room - place % room) (omega arith)
      | inr l ↦
          let back : place % room + (k - place % room) ≡ k = omega arith in
          ap f (sym (near place room (k - place % room) (omega arith) ∙ back)) ∙ e (k - place % room) (omega arith)
    ]

-- what was put, told of lists that are the same
pub placed-as : (room place : ℕ) (bytes ring words now new items bits : List ℕ) → ring ≡ items → words ≡ bits
    → IsPlaced room place bytes ring words now new → IsPlaced room place bytes items bits now new
placed-as room place bytes ring words now new items bits f g p = rw (← f) (rw (← g) p)
