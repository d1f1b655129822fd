-- The slots of a ring from a place on: how many, what stands in each, and what puts, takes and walks make of them.
use Rattle.std.proofs.Common.{inl, inr, ◌∙◌, ◌≡◌, ◌⊎◌, ℕ, zero, suc, ◌+◌, ◌-◌, ◌%◌, ◌<◌, ◌≤◌, nat_le, Bool, true, false, List, [], ◌∷◌, ◌++◌, length, get_or, take, drop, max, Option, Some, None, is_none, refl, ap, sym, arith}
use Rattle.std.specs.List.{list_all}
use Rattle.std.proofs.Math.Nat.{add-mod_right}
use Rattle.std.proofs.lemmas.Bool.{cases_lt, cases_Bool}
use Rattle.std.proofs.lemmas.List.{get_or-take, length-take, take-append-drop}
use Rattle.std.proofs.lemmas.Grind.{same_number_lists}
use Rattle.std.proofs.lemmas.Bool.Decides.{nat_tests}
use Rattle.std.proofs.lemmas.Nat.{mod_below}
use Rattle.efi_window.specs.Places.{front, put}
use Rattle.efi_window.specs.Kept.{is_kept, slot, slots, IsPlaced}
use Rattle.efi_window.proofs.Rounds.{all-round}

-- ---- slots

pub slots-length : (room : ℕ) (ring words : List ℕ) (place count : ℕ) → length (slots room ring words place count) ≡ count
slots-length room ring words place zero = refl
slots-length room ring words place (suc count) = ap suc (slots-length room ring words (suc place) count)

pub slots-at : (room : ℕ) (ring words : List ℕ) (place count i : ℕ) → i < count
    → get_or (slots room ring words place count) i None ≡ slot (is_kept words ((place + i) % room)) (get_or ring ((place + i) % room) 0)
slots-at room ring words place zero i h = absurd (omega arith)
slots-at room ring words place (suc count) zero h =
    let e : place + 0 ≡ place = omega arith in
    rw e refl
slots-at room ring words place (suc count) (suc i) h =
    let e : suc place + i ≡ place + suc i = omega arith in
    slots-at room ring words (suc place) count i (omega arith) ∙ ap (λ n. slot (is_kept words (n % room)) (get_or ring (n % room) 0)) e

pub slots-past : (room : ℕ) (ring words : List ℕ) (place count i : ℕ) → count ≤ i → get_or (slots room ring words place count) i None ≡ None
slots-past room ring words place zero i h = refl
slots-past room ring words place (suc count) zero h = absurd (omega arith)
slots-past room ring words place (suc count) (suc i) h = slots-past room ring words (suc place) count i (omega arith)

pub same-slots : (xs ys : List (Option ℕ)) → length xs ≡ length ys → ((i : ℕ) → i < length xs → get_or xs i None ≡ get_or ys i None) → xs ≡ ys
same-slots [] [] e f = refl
same-slots [] (y ∷ ys) e f = absurd (omega (arith, e))
same-slots (x ∷ xs) [] e f = absurd (omega (arith, e))
same-slots (x ∷ xs) (y ∷ ys) e f =
    let head : x ≡ y = f 0 (omega arith) in
    let rest : xs ≡ ys = same-slots xs ys (omega (arith, e)) (λ i h. f (suc i) (omega arith)) in
    rw head (ap (λ l. y ∷ l) rest)

slot-free : (kept : Bool) (byte : ℕ) → kept ≡ false → slot kept byte ≡ None
slot-free kept byte e = ap (λ k. slot k byte) e

slot-kept : (kept : Bool) (byte : ℕ) → kept ≡ true → slot kept byte ≡ Some byte
slot-kept kept byte e = ap (λ k. slot k byte) e

-- where the places behind those that are counted are free, the slots tell of the whole ring
slots-all : (room : ℕ) (ring words : List ℕ) (place count i : ℕ) → i < room
    → ((j : ℕ) → count ≤ j → j < room → is_kept words ((place + j) % room) ≡ false)
    → get_or (slots room ring words place count) i None ≡ slot (is_kept words ((place + i) % room)) (get_or ring ((place + i) % room) 0)
slots-all room ring words place count i h free = elim (cases_lt i count) [
  | inl l ↦ slots-at room ring words place count i l
  | inr l ↦ slots-past room ring words place count i l ∙ sym (slot-free _ _ (free i l h))
]

-- ---- a put

put-get-below : (at i : ℕ) (bytes : List ℕ) (kept : List (Option ℕ)) → i < at → get_or (put at bytes kept) i None ≡ get_or kept i None
put-get-below at i [] kept h = refl
put-get-below zero i (b ∷ bytes) kept h = absurd (omega arith)
put-get-below (suc at) zero (b ∷ bytes) [] h = refl
put-get-below (suc at) (suc i) (b ∷ bytes) [] h = put-get-below at i (b ∷ bytes) [] (omega arith)
put-get-below (suc at) zero (b ∷ bytes) (k ∷ kept) h = refl
put-get-below (suc at) (suc i) (b ∷ bytes) (k ∷ kept) h = put-get-below at i (b ∷ bytes) kept (omega arith)

put-get-above : (at i : ℕ) (bytes : List ℕ) (kept : List (Option ℕ)) → at + length bytes ≤ i → get_or (put at bytes kept) i None ≡ get_or kept i None
put-get-above at i [] kept h = refl
put-get-above zero zero (b ∷ bytes) kept h = absurd (omega arith)
put-get-above zero (suc i) (b ∷ bytes) [] h = put-get-above zero i bytes [] (omega arith)
put-get-above zero (suc i) (b ∷ bytes) (None ∷ kept) h = put-get-above zero i bytes kept (omega arith)
put-get-above zero (suc i) (b ∷ bytes) (Some k ∷ kept) h = put-get-above zero i bytes kept (omega arith)
put-get-above (suc at) zero (b ∷ bytes) kept h = absurd (omega arith)
put-get-above (suc at) (suc i) (b ∷ bytes) [] h = put-get-above at i (b ∷ bytes) [] (omega arith)
put-get-above (suc at) (suc i) (b ∷ bytes) (k ∷ kept) h = put-get-above at i (b ∷ bytes) kept (omega arith)

put-get-kept : (at i x : ℕ) (bytes : List ℕ) (kept : List (Option ℕ)) → get_or kept i None ≡ Some x → get_or (put at bytes kept) i None ≡ Some x
put-get-kept at i x [] kept e = e
put-get-kept at i x (b ∷ bytes) [] e = absurd (cc)
put-get-kept zero zero x (b ∷ bytes) (None ∷ kept) e = absurd (cc)
put-get-kept zero zero x (b ∷ bytes) (Some k ∷ kept) e = e
put-get-kept zero (suc i) x (b ∷ bytes) (None ∷ kept) e = put-get-kept zero i x bytes kept e
put-get-kept zero (suc i) x (b ∷ bytes) (Some k ∷ kept) e = put-get-kept zero i x bytes kept e
put-get-kept (suc at) zero x (b ∷ bytes) (k ∷ kept) e = e
put-get-kept (suc at) (suc i) x (b ∷ bytes) (k ∷ kept) e = put-get-kept at i x (b ∷ bytes) kept e

put-get-new : (at i : ℕ) (bytes : List ℕ) (kept : List (Option ℕ)) → at ≤ i → i < at + length bytes → get_or kept i None ≡ None
    → get_or (put at bytes kept) i None ≡ Some (get_or bytes (i - at) 0)
put-get-new at i [] kept h k e = absurd (omega arith)
put-get-new zero zero (b ∷ bytes) [] h k e = refl
put-get-new zero zero (b ∷ bytes) (None ∷ kept) h k e = refl
put-get-new zero zero (b ∷ bytes) (Some o ∷ kept) h k e = absurd (cc)
put-get-new zero (suc i) (b ∷ bytes) [] h k e =
    let back : suc i - 0 ≡ suc (i - 0) = omega arith in
    rw back (put-get-new zero i bytes [] (omega arith) (omega arith) refl)
put-get-new zero (suc i) (b ∷ bytes) (None ∷ kept) h k e =
    let back : suc i - 0 ≡ suc (i - 0) = omega arith in
    rw back (put-get-new zero i bytes kept (omega arith) (omega arith) e)
put-get-new zero (suc i) (b ∷ bytes) (Some o ∷ kept) h k e =
    let back : suc i - 0 ≡ suc (i - 0) = omega arith in
    rw back (put-get-new zero i bytes kept (omega arith) (omega arith) e)
put-get-new (suc at) zero (b ∷ bytes) kept h k e = absurd (omega arith)
put-get-new (suc at) (suc i) (b ∷ bytes) [] h k e =
    let back : suc i - suc at ≡ i - at = omega arith in
    rw back (put-get-new at i (b ∷ bytes) [] (omega arith) (omega arith) refl)
put-get-new (suc at) (suc i) (b ∷ bytes) (o ∷ kept) h k e =
    let back : suc i - suc at ≡ i - at = omega arith in
    rw back (put-get-new at i (b ∷ bytes) kept (omega arith) (omega arith) e)

put-reach : (at : ℕ) (bytes : List ℕ) (kept : List (Option ℕ)) → 0 < length bytes → length (put at bytes kept) ≡ max (length kept) (at + length bytes)
put-reach at [] kept h = absurd (omega arith)
put-reach zero (b ∷ []) [] h = refl
put-reach zero (b ∷ []) (None ∷ kept) h = omega arith
put-reach zero (b ∷ []) (Some k ∷ kept) h = omega arith
put-reach zero (b ∷ d ∷ bytes) [] h = omega (arith, put-reach zero (d ∷ bytes) [] (omega arith))
put-reach zero (b ∷ d ∷ bytes) (None ∷ kept) h = omega (arith, put-reach zero (d ∷ bytes) kept (omega arith))
put-reach zero (b ∷ d ∷ bytes) (Some k ∷ kept) h = omega (arith, put-reach zero (d ∷ bytes) kept (omega arith))
put-reach (suc at) (b ∷ bytes) [] h = omega (arith, put-reach at (b ∷ bytes) [] (omega arith))
put-reach (suc at) (b ∷ bytes) (k ∷ kept) h = omega (arith, put-reach at (b ∷ bytes) kept (omega arith))

-- a place behind the first one that was put, or in front of it and so behind it all round
past-first : (taken first room i : ℕ) → taken ≤ first → first - taken ≤ i → (taken + i) % room ≡ (first + (i - (first - taken))) % room
past-first taken first room i h k =
    let e : taken + i ≡ first + (i - (first - taken)) = omega arith in
    ap (λ n. n % room) e

round-first : (taken first room i : ℕ) → taken ≤ first → i < first - taken → first - taken ≤ room
    → (taken + i) % room ≡ (first + (room + i - (first - taken))) % room
round-first taken first room i h k l =
    let e : taken + i + room ≡ first + (room + i - (first - taken)) = omega arith in
    sym (add-mod_right (taken + i) room) ∙ ap (λ n. n % room) e

-- a place that was not put is kept where it was kept before
module _ (taken first room : ℕ) (bytes ring words now new : List ℕ) (order : taken ≤ first) (fits : first - taken + length bytes ≤ room)
    (p : IsPlaced room first bytes ring words now new) where
  pub put-others : (i : ℕ) → i < room → (i < first - taken) ⊎ (first - taken + length bytes ≤ i)
      → is_kept new ((taken + i) % room) ≡ is_kept words ((taken + i) % room)
  put-others i h k = elim k [
    | inl l ↦
        let e = round-first taken first room i order l (omega arith) in
        ap (is_kept new) e ∙ p.others (room + i - (first - taken)) (omega arith) (omega arith) ∙ ap (is_kept words) (sym e)
    | inr l ↦
        let e = past-first taken first room i order (omega arith) in
        ap (is_kept new) e ∙ p.others (i - (first - taken)) (omega arith) (omega arith) ∙ ap (is_kept words) (sym e)
  ]

  other : (i : ℕ) (held : List (Option ℕ)) → i < room → (i < first - taken) ⊎ (first - taken + length bytes ≤ i)
      → get_or (put (first - taken) bytes held) i None ≡ get_or held i None
  other i held h k = elim k [
    | inl l ↦ put-get-below (first - taken) i bytes held l
    | inr l ↦ put-get-above (first - taken) i bytes held l
  ]

  -- one slot after a put
  slot-put : (i : ℕ) (held : List (Option ℕ)) → i < room
      → get_or held i None ≡ slot (is_kept words ((taken + i) % room)) (get_or ring ((taken + i) % room) 0)
      → slot (is_kept new ((taken + i) % room)) (get_or now ((taken + i) % room) 0) ≡ get_or (put (first - taken) bytes held) i None
  slot-put i held h e = elim (cases_Bool (is_kept words ((taken + i) % room))) [
    | inl kept ↦
        let s = p.stays ((taken + i) % room) kept in
        slot-kept _ _ s.0 ∙ ap (λ b. Some b) s.1
        ∙ sym (put-get-kept (first - taken) i _ bytes held (e ∙ slot-kept _ _ kept))
    | inr free ↦
        let none = e ∙ slot-free _ _ free in
        elim (cases_lt i (first - taken)) [
          | inl l ↦ slot-free _ _ (put-others i h (inl l) ∙ free) ∙ sym (other i held h (inl l) ∙ none)
          | inr l ↦ elim (cases_lt i (first - taken + length bytes)) [
            | inl m ↦
                let q = past-first taken first room i order l in
                slot-kept _ _ (ap (is_kept new) q ∙ p.marked (i - (first - taken)) (omega arith))
                ∙ ap (λ b. Some b) (ap (λ n. get_or now n 0) q ∙ p.added (i - (first - taken)) (omega arith) (ap (is_kept words) (sym q) ∙ free))
                ∙ sym (put-get-new (first - taken) i bytes held l m none)
            | inr m ↦ slot-free _ _ (put-others i h (inr m) ∙ free) ∙ sym (other i held h (inr m) ∙ none)
          ]
        ]
  ]

  -- all of them
  pub slots-put : (span : ℕ) → 0 < length bytes → span ≤ room
      → ((j : ℕ) → span ≤ j → j < room → is_kept words ((taken + j) % room) ≡ false)
      → slots room now new taken (max span (first - taken + length bytes)) ≡ put (first - taken) bytes (slots room ring words taken span)
  slots-put span some within free =
      let was = slots-length room ring words taken span in
      let reach = put-reach (first - taken) bytes (slots room ring words taken span) some in
      same-slots (slots room now new taken (max span (first - taken + length bytes))) (put (first - taken) bytes (slots room ring words taken span))
      (omega (arith, slots-length room now new taken (max span (first - taken + length bytes)), reach, was))
      (λ i h.
      let k : i < max span (first - taken + length bytes) = omega (arith, slots-length room now new taken (max span (first - taken + length bytes))) in
      slots-at room now new taken (max span (first - taken + length bytes)) i k
      ∙ slot-put i (slots room ring words taken span) (omega arith)
      (slots-all room ring words taken span i (omega arith) free))

  pub free-put : (span i : ℕ) → ((j : ℕ) → span ≤ j → j < room → is_kept words ((taken + j) % room) ≡ false)
      → max span (first - taken + length bytes) ≤ i → i < room → is_kept new ((taken + i) % room) ≡ false
  free-put span i free h k = put-others i k (inr (omega arith)) ∙ free i (omega arith) k

-- a ring and bits that are longer, with the same bytes and the same places
pub slots-longer : (room : ℕ) (ring longer words more : List ℕ) (place count : ℕ) → ((i : ℕ) → get_or longer i 0 ≡ get_or ring i 0)
    → ((i : ℕ) → is_kept more i ≡ is_kept words i) → slots room longer more place count ≡ slots room ring words place count
slots-longer room ring longer words more place zero e f = refl
slots-longer room ring longer words more place (suc count) e f =
    let bit = ap (λ b. slot b (get_or longer (place % room) 0)) (f (place % room)) in
    let head = bit ∙ ap (slot (is_kept words (place % room))) (e (place % room)) in
    rw head (ap (λ l. slot (is_kept words (place % room)) (get_or ring (place % room) 0) ∷ l) (slots-longer room ring longer words more (suc place) count e f))

-- ---- a take

-- the same slots with other bits
slots-same : (room : ℕ) (ring words new : List ℕ) (place count : ℕ)
    → ((i : ℕ) → i < count → is_kept new ((place + i) % room) ≡ is_kept words ((place + i) % room))
    → slots room ring new place count ≡ slots room ring words place count
slots-same room ring words new place count e =
    same-slots (slots room ring new place count) (slots room ring words place count)
    (slots-length room ring new place count ∙ sym (slots-length room ring words place count))
    (λ i h.
    let k : i < count = omega (arith, slots-length room ring new place count) in
    slots-at room ring new place count i k
    ∙ ap (λ b. slot b (get_or ring ((place + i) % room) 0)) (e i k)
    ∙ sym (slots-at room ring words place count i k))

slots-behind : (room : ℕ) (ring words : List ℕ) (place n count : ℕ) → n ≤ count
    → slots room ring words (place + n) (count - n) ≡ drop n (slots room ring words place count)
slots-behind room ring words place zero count h =
    let e : place + 0 ≡ place = omega arith in
    let f : count - 0 ≡ count = omega arith in
    rw e (rw f refl)
slots-behind room ring words place (suc n) zero h = absurd (omega arith)
slots-behind room ring words place (suc n) (suc count) h =
    let e : place + suc n ≡ suc place + n = omega arith in
    let f : suc count - suc n ≡ count - n = omega arith in
    rw e (rw f (slots-behind room ring words (suc place) n count (omega arith)))

pub slots-taken : (room : ℕ) (ring words new : List ℕ) (place n span : ℕ) → n ≤ span → span ≤ room
    → ((i : ℕ) → n ≤ i → i < room → is_kept new ((place + i) % room) ≡ is_kept words ((place + i) % room))
    → slots room ring new (place + n) (span - n) ≡ drop n (slots room ring words place span)
slots-taken room ring words new place n span h k e =
    slots-same room ring words new (place + n) (span - n) (λ i l.
    let f : place + n + i ≡ place + (n + i) = omega arith in
    rw f (e (n + i) (omega arith) (omega arith)))
    ∙ slots-behind room ring words place n span h

-- the same where the ring's front moves on with what was taken, once nothing is kept
pub slots-moved : (room : ℕ) (ring words new : List ℕ) (place to n span : ℕ) → n ≤ span → span ≤ room
    → ((i : ℕ) → n ≤ i → i < room → is_kept new ((place + i) % room) ≡ is_kept words ((place + i) % room))
    → (0 < span - n → to ≡ place + n)
    → slots room ring new to (span - n) ≡ drop n (slots room ring words place span)
slots-moved room ring words new place to n span h k e moved = elim (cases_lt 0 (span - n)) [
  | inl l ↦ ap (λ p. slots room ring new p (span - n)) (moved l) ∙ slots-taken room ring words new place n span h k e
  | inr l ↦
      let none : span - n ≡ 0 = omega arith in
      ap (λ c. slots room ring new to c) none
      ∙ sym (ap (λ c. slots room ring new (place + n) c) none)
      ∙ slots-taken room ring words new place n span h k e
]

pub free-taken : (room : ℕ) (words new : List ℕ) (place n span i : ℕ) → n ≤ span → span ≤ room
    → ((j : ℕ) → span ≤ j → j < room → is_kept words ((place + j) % room) ≡ false)
    → ((j : ℕ) → j < n → is_kept new ((place + j) % room) ≡ false)
    → ((j : ℕ) → n ≤ j → j < room → is_kept new ((place + j) % room) ≡ is_kept words ((place + j) % room))
    → span - n ≤ i → i < room → is_kept new ((place + n + i) % room) ≡ false
free-taken room words new place n span i h k free freed others a b =
    elim (cases_lt (n + i) room) [
      | inl l ↦
          let f : place + n + i ≡ place + (n + i) = omega arith in
          rw f (others (n + i) (omega arith) l ∙ free (n + i) (omega arith) l)
      | inr l ↦
          let f : place + n + i ≡ place + (n + i - room) + room = omega arith in
          rw f (ap (is_kept new) (add-mod_right (place + (n + i - room)) room) ∙ freed (n + i - room) (omega arith))
    ]

pub free-moved : (room : ℕ) (words new : List ℕ) (place to n span i : ℕ) → n ≤ span → span ≤ room
    → ((j : ℕ) → span ≤ j → j < room → is_kept words ((place + j) % room) ≡ false)
    → ((j : ℕ) → j < n → is_kept new ((place + j) % room) ≡ false)
    → ((j : ℕ) → n ≤ j → j < room → is_kept new ((place + j) % room) ≡ is_kept words ((place + j) % room))
    → (0 < span - n → to ≡ place + n)
    → span - n ≤ i → i < room → is_kept new ((to + i) % room) ≡ false
free-moved room words new place to n span i h k free freed others moved a b = elim (cases_lt 0 (span - n)) [
  | inl l ↦ ap (λ p. is_kept new ((p + i) % room)) (moved l) ∙ free-taken room words new place n span i h k free freed others a b
  | inr l ↦ all-round (is_kept new) false (place + n) room ((to + i) % room) (mod_below (to + i) room (omega arith))
      (λ j m. free-taken room words new place n span j h k free freed others (omega arith) m)
]

-- ---- walks

front-count : (xs : List (Option ℕ)) (n : ℕ) → n ≤ length xs → ((i : ℕ) → i < n → is_none (get_or xs i None) ≡ false)
    → (n < length xs → get_or xs n None ≡ None) → length (front xs) ≡ n
front-count [] n h kept ends = omega arith
front-count (None ∷ xs) zero h kept ends = refl
front-count (Some x ∷ xs) zero h kept ends = absurd (cc (ends (omega arith)))
front-count (None ∷ xs) (suc n) h kept ends = absurd (cc (kept 0 (omega arith)))
front-count (Some x ∷ xs) (suc n) h kept ends =
    ap suc (front-count xs n (omega arith) (λ i l. kept (suc i) (omega arith)) (λ l. ends (omega arith)))

pub front-byte : (xs : List (Option ℕ)) (i : ℕ) → i < length (front xs) → get_or xs i None ≡ Some (get_or (front xs) i 0)
front-byte [] i h = absurd (omega arith)
front-byte (None ∷ xs) i h = absurd (omega arith)
front-byte (Some x ∷ xs) zero h = refl
front-byte (Some x ∷ xs) (suc i) h = front-byte xs i (omega arith)

none-free : (xs : List (Option ℕ)) (place : ℕ) → ((i : ℕ) → place ≤ i → i < length xs → get_or xs i None ≡ None) → list_all is_none (drop place xs) ≡ true
none-free [] zero e = refl
none-free [] (suc place) e = refl
none-free (None ∷ xs) zero e = none-free xs zero (λ i h k. e (suc i) (omega arith) (omega arith))
none-free (Some x ∷ xs) zero e = absurd (cc (e 0 (omega arith) (omega arith)))
none-free (x ∷ xs) (suc place) e = none-free xs place (λ i h k. e (suc i) (omega arith) (omega arith))

some-free : (xs : List (Option ℕ)) (place i x : ℕ) → place ≤ i → get_or xs i None ≡ Some x → list_all is_none (drop place xs) ≡ false
some-free [] place i x h e = absurd (cc)
some-free (None ∷ xs) zero zero x h e = absurd (cc)
some-free (Some y ∷ xs) zero i x h e = refl
some-free (None ∷ xs) zero (suc i) x h e = some-free xs zero i x (omega arith) e
some-free (y ∷ xs) (suc place) zero x h e = absurd (omega arith)
some-free (y ∷ xs) (suc place) (suc i) x h e = some-free xs place i x (omega arith) e

pub ready-slots : (room : ℕ) (ring words : List ℕ) (place span run : ℕ) → run ≤ span
    → ((i : ℕ) → i < run → is_kept words ((place + i) % room) ≡ true)
    → (run < span → is_kept words ((place + run) % room) ≡ false)
    → length (front (slots room ring words place span)) ≡ run
ready-slots room ring words place span run h kept ends =
    let len = slots-length room ring words place span in
    front-count (slots room ring words place span) run (omega (arith, len))
    (λ i l. ap is_none (slots-at room ring words place span i (omega arith) ∙ slot-kept _ _ (kept i l)))
    (λ l. let k : run < span = omega (arith, len) in
    slots-at room ring words place span run k ∙ slot-free _ _ (ends k))

-- a byte of the front is the ring's
pub front-slots : (room : ℕ) (ring words : List ℕ) (place span i : ℕ) → i < length (front (slots room ring words place span)) → i < span
    → is_kept words ((place + i) % room) ≡ true
    → get_or (front (slots room ring words place span)) i 0 ≡ get_or ring ((place + i) % room) 0
front-slots room ring words place span i h k kept =
    let e = sym (front-byte (slots room ring words place span) i h) ∙ slots-at room ring words place span i k ∙ slot-kept _ _ kept in
    some-same _ _ e
  where
    some-same : (a b : ℕ) → Some a ≡ Some b → a ≡ b
    some-same a b e = cc

-- the last place that counts has a byte, so nothing is kept from a place on exactly where that isn't in front of the end
pub free-from : (room : ℕ) (ring words : List ℕ) (place span n : ℕ) → (0 < span → is_kept words ((place + (span - 1)) % room) ≡ true)
    → nat_le span n ≡ list_all is_none (drop n (slots room ring words place span))
free-from room ring words place span n last = elim (cases_lt n span) [
  | inl l ↦
      below l ∙ sym (some-free (slots room ring words place span) n (span - 1) _ (omega arith)
      (slots-at room ring words place span (span - 1) (omega arith) ∙ slot-kept _ _ (last (omega arith))))
  | inr l ↦
      past l ∙ sym (none-free (slots room ring words place span) n (λ i a b. absurd (omega (arith, slots-length room ring words place span))))
]
  where
    below : n < span → nat_le span n ≡ false
    below l = grind (arith, nat_tests)

    past : span ≤ n → nat_le span n ≡ true
    past l = grind (arith, nat_tests)

-- the last place that counts has a byte after a put
pub last-put : (base at room span : ℕ) (bytes ring words now new : List ℕ) → base ≤ at → 0 < length bytes → IsPlaced room at bytes ring words now new
    → (0 < span → is_kept words ((base + (span - 1)) % room) ≡ true)
    → is_kept new ((base + (max span (at - base + length bytes) - 1)) % room) ≡ true
last-put base at room span bytes ring words now new order some p last = elim (cases_lt span (at - base + length bytes)) [
  | inl l ↦
      let e : base + (max span (at - base + length bytes) - 1) ≡ at + (length bytes - 1) = omega arith in
      ap (λ n. is_kept new (n % room)) e ∙ p.marked (length bytes - 1) (omega arith)
  | inr l ↦
      let e : base + (max span (at - base + length bytes) - 1) ≡ base + (span - 1) = omega arith in
      ap (λ n. is_kept new (n % room)) e ∙ (p.stays _ (last (omega arith))).0
]

-- and after a take
pub last-moved : (room : ℕ) (words new : List ℕ) (place to n span : ℕ) → span ≤ room
    → ((i : ℕ) → n ≤ i → i < room → is_kept new ((place + i) % room) ≡ is_kept words ((place + i) % room))
    → (0 < span → is_kept words ((place + (span - 1)) % room) ≡ true) → 0 < span - n → to ≡ place + n
    → is_kept new ((to + (span - n - 1)) % room) ≡ true
last-moved room words new place to n span h others last more moved =
    let e : to + (span - n - 1) ≡ place + (span - 1) = omega (arith, moved) in
    ap (λ k. is_kept new (k % room)) e ∙ others (span - 1) (omega arith) (omega arith) ∙ last (omega arith)

-- the bytes that were copied for a take
pub taken-bytes : (room : ℕ) (ring words : List ℕ) (place span run count : ℕ) (out old : List ℕ)
    → length (front (slots room ring words place span)) ≡ run → run ≤ span → count ≤ run → length out ≡ length old → count ≤ length old
    → ((i : ℕ) → i < run → is_kept words ((place + i) % room) ≡ true)
    → ((i : ℕ) → i < count → get_or out i 0 ≡ get_or ring ((place + i) % room) 0) → drop count out ≡ drop count old
    → out ≡ take count (front (slots room ring words place span)) ++ drop count old
taken-bytes room ring words place span run count out old len within fits same room_of kept bytes rest =
    let f : List ℕ = front (slots room ring words place span) in
    let a : length (take count out) ≡ count = omega (arith, length-take count out) in
    let b : length (take count f) ≡ count = omega (arith, length-take count f) in
    let front-same : take count out ≡ take count f = same_number_lists (take count out) (take count f) (a ∙ sym b) (λ i h.
    let k : i < count = omega arith in
    get_or-take count out i 0 k ∙ bytes i k
    ∙ sym (front-slots room ring words place span i (omega arith) (omega arith) (kept i (omega arith)))
    ∙ sym (get_or-take count f i 0 k)) in
    sym (take-append-drop count out) ∙ ap (λ l. l ++ drop count out) front-same ∙ ap (λ l. take count f ++ l) rest
