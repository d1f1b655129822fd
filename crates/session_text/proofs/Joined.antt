-- Pieces of an image, joined.
use Rattle.std.proofs.Common.{◌≡◌, ℕ, zero, suc, ◌+◌, ◌-◌, ◌*◌, ◌/◌, ◌%◌, ◌<◌, ◌≤◌, ◌^◌, min, List, [], ◌∷◌, ◌++◌, length, get_or, take, drop, map, refl, ap, sym, ◌∙◌, subst, append_assoc, append-nil, add-one, add-zero, drop-cons, arith, ◌≢◌, length-append, length-drop}
use Rattle.std.proofs.lemmas.Grind.{common_steps}
use Rattle.std.proofs.lemmas.List.{drop-drop, length-take}
use Rattle.std.specs.List.{flat_map, range_with_len}
use Rattle.session_text.specs.Image.{piece_octets, piece_length, image_octets, fill_octet}
use Rattle.session_text.specs.declared.image.Piece.{Piece}
use Rattle.session_text.specs.declared.image.Piece.TheVariants.{Octets, Fill}

-- a rule that fills, by places
run_length : (f : ℕ → ℕ) (a n : ℕ) → length (map f (range_with_len a n)) ≡ n
run_length f a zero = refl
run_length f a (suc n) = ap (λ k. suc k) (run_length f (a + 1) n)

run_at : (f : ℕ → ℕ) (a n i : ℕ) → i < n → get_or (map f (range_with_len a n)) i 0 ≡ f (a + i)
run_at f a zero i h = absurd (omega arith)
run_at f a (suc n) zero h = ap f (sym (add-zero a))
run_at f a (suc n) (suc i) h =
    let same : a + 1 + i ≡ a + suc i = omega arith in
    run_at f (a + 1) n i (omega arith) ∙ ap f same

pub piece_size : (p : Piece) → length (piece_octets p) ≡ piece_length p
piece_size (Octets octets) = refl
piece_size (Fill count first) = run_length (fill_octet first) 0 count

pub fill_at : (count first place : ℕ) → place < count → fill_octet first place ≡ get_or (piece_octets (Fill count first)) place 0
fill_at count first place h = sym (run_at (fill_octet first) 0 count place h ∙ ap (fill_octet first) (zero_more place))
  where
    zero_more : (n : ℕ) → 0 + n ≡ n
    zero_more n = omega arith

-- octets by places are a run
run_is : (f : ℕ → ℕ) (a : ℕ) (xs : List ℕ) → ((k : ℕ) → k < length xs → get_or xs k 0 ≡ f (a + k)) → xs ≡ map f (range_with_len a (length xs))
run_is f a [] at = refl
run_is f a (x ∷ xs) at =
    let first : x ≡ f a = at 0 (omega arith) ∙ ap f (add-zero a) in
    let later = run_is f (a + 1) xs (λ k h. at (suc k) (omega arith) ∙ ap f (next a k)) in
    ap (λ (y : ℕ). y ∷ xs) first ∙ ap (λ (ys : List ℕ). f a ∷ ys) later
  where
    next : (a k : ℕ) → a + suc k ≡ a + 1 + k
    next a k = omega arith

-- a part of a run
run_front : (f : ℕ → ℕ) (a n m : ℕ) → take n (map f (range_with_len a (n + m))) ≡ map f (range_with_len a n)
run_front f a zero m = refl
run_front f a (suc n) m =
    let same : suc n + m ≡ suc (n + m) = omega arith in
    ap (λ (k : ℕ). take (suc n) (map f (range_with_len a k))) same ∙ ap (λ (xs : List ℕ). f a ∷ xs) (run_front f (a + 1) n m)

run_part : (f : ℕ → ℕ) (a left n m : ℕ) → take n (drop left (map f (range_with_len a (left + (n + m))))) ≡ map f (range_with_len (a + left) n)
run_part f a zero n m =
    let same : 0 + (n + m) ≡ n + m = omega arith in
    ap (λ (k : ℕ). take n (map f (range_with_len a k))) same ∙ run_front f a n m ∙ ap (λ (b : ℕ). map f (range_with_len b n)) (sym (add-zero a))
run_part f a (suc left) n m =
    let same : suc left + (n + m) ≡ suc (left + (n + m)) = omega arith in
    let place : a + 1 + left ≡ a + suc left = omega arith in
    ap (λ (k : ℕ). take n (drop (suc left) (map f (range_with_len a k)))) same ∙ run_part f (a + 1) left n m ∙ ap (λ (b : ℕ). map f (range_with_len b n)) place

pub fill_part : (count first place : ℕ) (xs : List ℕ) → place + length xs ≤ count
    → ((k : ℕ) → k < length xs → get_or xs k 0 ≡ fill_octet first (place + k)) → xs ≡ take (length xs) (drop place (piece_octets (Fill count first)))
fill_part count first place xs within at =
    let f : ℕ → ℕ = fill_octet first in
    let more : ℕ = count - (place + length xs) in
    let same : place + (length xs + more) ≡ count = omega arith in
    let start : 0 + place ≡ place = omega arith in
    run_is f place xs at
    ∙ ap (λ (b : ℕ). map f (range_with_len b (length xs))) (sym start)
    ∙ sym (run_part f 0 place (length xs) more)
    ∙ ap (λ (k : ℕ). take (length xs) (drop place (map f (range_with_len 0 k)))) same

-- the pieces from one on
pub image_more : (pieces : List Piece) (i : ℕ) (p : Piece) → i < length pieces → p ≡ get_or pieces i p
    → image_octets (drop i pieces) ≡ piece_octets p ++ image_octets (drop (i + 1) pieces)
unfolding image_octets
image_more pieces i p within is =
    let cons : drop i pieces ≡ get_or pieces i p ∷ drop (i + 1) pieces = rw (add-one, drop-cons pieces i p) in
    ap (λ (ps : List Piece). flat_map piece_octets ps) cons
    ∙ ap (λ (q : Piece). piece_octets q ++ flat_map piece_octets (drop (i + 1) pieces)) (sym is)

pub image_none : (pieces : List Piece) (i : ℕ) → length pieces ≤ i → image_octets (drop i pieces) ≡ []
unfolding image_octets
image_none pieces i over =
    let none : drop i pieces ≡ [] = grind (arith, common_steps) in
    ap (λ (ps : List Piece). flat_map piece_octets ps) none

pub image_size : (pieces : List Piece) (i : ℕ) (p : Piece) → i < length pieces → p ≡ get_or pieces i p
    → length (image_octets (drop i pieces)) ≡ piece_length p + length (image_octets (drop (i + 1) pieces))
image_size pieces i p within is =
    ap length (image_more pieces i p within is)
    ∙ length-append (piece_octets p) (image_octets (drop (i + 1) pieces))
    ∙ ap (λ (k : ℕ). k + length (image_octets (drop (i + 1) pieces))) (piece_size p)

drop_shorter : (pieces : List Piece) (i : ℕ) → length (image_octets (drop i pieces)) ≤ length (image_octets pieces)
unfolding image_octets
drop_shorter pieces zero = omega arith
drop_shorter [] (suc i) = omega arith
drop_shorter (p ∷ pieces) (suc i) = omega (arith, drop_shorter pieces i, length-append (piece_octets p) (flat_map piece_octets pieces))

-- no piece is longer than all
pub piece_bound : (pieces : List Piece) (i : ℕ) (p : Piece) → i < length pieces → p ≡ get_or pieces i p
    → piece_length p ≤ length (image_octets pieces)
piece_bound pieces i p within is = omega (arith, image_size pieces i p within is, drop_shorter pieces i)

pub fill_there : (p : Piece) (count first place : ℕ) → p ≡ Fill count first → place < piece_length p
    → fill_octet first place ≡ get_or (piece_octets p) place 0
fill_there p count first place e h =
    let P : Piece → Type 0 = λ q. place < piece_length q in
    fill_at count first place (subst P e h) ∙ ap (λ (q : Piece). get_or (piece_octets q) place 0) (sym e)

pub run_there : (p : Piece) (count first place : ℕ) (old xs : List ℕ) → p ≡ Fill count first → length xs ≡ length old
    → place + length old ≤ piece_length p → ((k : ℕ) → k < length xs → get_or xs k 0 ≡ fill_octet first (place + k))
    → xs ≡ take (length old) (drop place (piece_octets p))
run_there p count first place old xs e size h at =
    let P : Piece → Type 0 = λ q. place + length old ≤ piece_length q in
    let within : place + length old ≤ count = subst P e h in
    fill_part count first place xs (omega arith) at
    ∙ ap (λ (n : ℕ). take n (drop place (piece_octets (Fill count first)))) size
    ∙ ap (λ (q : Piece). take (length old) (drop place (piece_octets q))) (sym e)

-- a place of all octets is so far behind the front of the rest
pub record At (all : List ℕ) (place : ℕ) (rest : List ℕ) (left : ℕ) : Type 0 where
  pub front : List ℕ
  pub is : all ≡ front ++ rest
  pub same : place ≡ length front + left

pub at_start : (all : List ℕ) (place : ℕ) → At all place all place
at_start all place = record { front = []; is = refl; same = omega arith }

pub at_more : (all : List ℕ) (place : ℕ) (octets rest : List ℕ) (left : ℕ) → At all place (octets ++ rest) left → length octets ≤ left
    → At all place rest (left - length octets)
at_more all place octets rest left at h = record {
  front = at.front ++ octets;
  is = at.is ∙ sym (append_assoc at.front octets rest);
  same = omega (arith, at.same, length-append at.front octets);
}

behind_front : (front octets rest : List ℕ) (left : ℕ) → left < length octets → get_or (front ++ (octets ++ rest)) (length front + left) 0 ≡ get_or octets left 0
behind_front front octets rest left h = grind (arith, common_steps)

pub at_here : (all : List ℕ) (place : ℕ) (octets rest : List ℕ) (left : ℕ) → At all place (octets ++ rest) left → left < length octets
    → (place < length all) × (get_or octets left 0 ≡ get_or all place 0)
at_here all place octets rest left at h = (
  omega (arith, at.same, ap length at.is, length-append at.front (octets ++ rest), length-append octets rest),
  sym (ap (λ (xs : List ℕ). get_or xs place 0) at.is ∙ ap (λ (k : ℕ). get_or (at.front ++ (octets ++ rest)) k 0) at.same ∙ behind_front at.front octets rest left h),
)

pub at_none : (all : List ℕ) (place left : ℕ) (rest : List ℕ) → rest ≡ [] → At all place rest left → length all ≤ place
at_none all place left rest none at = omega (arith, at.same, ap length at.is, length-append at.front rest, ap length none)

-- the front of the room holds the octets wanted first, and those that are wanted next are the rest's, from a place on
pub record Copied (wanted room : List ℕ) (filled : ℕ) (now rest : List ℕ) (left : ℕ) : Type 0 where
  pub within : filled ≤ length room
  pub few : filled ≤ length wanted
  pub is : now ≡ take filled wanted ++ drop filled room
  pub next : drop filled wanted ≡ drop left rest

pub copied_start : (all room : List ℕ) (place : ℕ) → Copied (drop place all) room 0 room all place
copied_start all room place = record { within = omega arith; few = omega arith; is = refl; next = refl }

drop_joined : (octets rest : List ℕ) (left : ℕ) → length octets ≤ left → drop left (octets ++ rest) ≡ drop (left - length octets) rest
drop_joined [] rest left h = let same : left ≡ left - 0 = omega arith in ap (λ (k : ℕ). drop k rest) same
drop_joined (x ∷ octets) rest zero h = absurd (omega arith)
drop_joined (x ∷ octets) rest (suc left) h =
    let same : left - length octets ≡ suc left - length (x ∷ octets) = omega arith in
    drop_joined octets rest left (omega arith) ∙ ap (λ (k : ℕ). drop k rest) same

pub copied_skip : (wanted room : List ℕ) (filled : ℕ) (now octets rest : List ℕ) (left : ℕ) → Copied wanted room filled now (octets ++ rest) left
    → length octets ≤ left → Copied wanted room filled now rest (left - length octets)
copied_skip wanted room filled now octets rest left so h = record {
  within = so.within;
  few = so.few;
  is = so.is;
  next = so.next ∙ drop_joined octets rest left h;
}

sizes : (wanted room now octets rest : List ℕ) (filled left : ℕ) → filled ≤ length room → filled ≤ length wanted
    → now ≡ take filled wanted ++ drop filled room → drop filled wanted ≡ drop left (octets ++ rest) → left < length octets
    → (length now ≡ length room) × (length wanted ≡ filled + (length octets - left + length rest))
sizes wanted room now octets rest filled left within few is next h = (
  ap length is ∙ joined_size,
  omega (arith, length-drop filled wanted, ap length next, length-drop left (octets ++ rest), length-append octets rest),
)
  where
    joined_size : length (take filled wanted ++ drop filled room) ≡ length room
    joined_size = grind (arith, common_steps)

front_is : (wanted room : List ℕ) (filled : ℕ) → filled ≤ length wanted → take filled (take filled wanted ++ drop filled room) ≡ take filled wanted
front_is wanted room filled h = grind (arith, common_steps)

behind_all : (xs ys : List ℕ) (n : ℕ) → drop (length xs + n) (xs ++ ys) ≡ drop n ys
behind_all [] ys n = let same : length {A = ℕ} [] + n ≡ n = omega arith in ap (λ (k : ℕ). drop k ys) same
behind_all (x ∷ xs) ys n =
    let same : length (x ∷ xs) + n ≡ suc (length xs + n) = omega arith in
    ap (λ (k : ℕ). drop k (x ∷ (xs ++ ys))) same ∙ behind_all xs ys n

back_is : (wanted room : List ℕ) (filled n : ℕ) → filled ≤ length wanted → drop (filled + n) (take filled wanted ++ drop filled room) ≡ drop (filled + n) room
back_is wanted room filled n h =
    let size : filled ≡ length (take filled wanted) = omega (arith, length-take filled wanted) in
    ap (λ (k : ℕ). drop (k + n) (take filled wanted ++ drop filled room)) size
    ∙ behind_all (take filled wanted) (drop filled room) n
    ∙ drop-drop n filled room

take_more : (xs : List ℕ) (a n : ℕ) → take (a + n) xs ≡ take a xs ++ take n (drop a xs)
take_more xs zero n = ap (λ (k : ℕ). take k xs) (zero_n n)
  where
    zero_n : (n : ℕ) → 0 + n ≡ n
    zero_n n = omega arith
take_more [] (suc a) n = grind (arith, common_steps)
take_more (x ∷ xs) (suc a) n =
    let same : suc a + n ≡ suc (a + n) = omega arith in
    ap (λ (k : ℕ). take k (x ∷ xs)) same ∙ ap (λ (ys : List ℕ). x ∷ ys) (take_more xs a n)

within_front : (octets rest : List ℕ) (left n : ℕ) → left + n ≤ length octets → take n (drop left (octets ++ rest)) ≡ take n (drop left octets)
within_front octets rest left n h = grind (arith, common_steps)

-- a piece's octets are copied behind those that were
pub copied_more : (wanted room : List ℕ) (filled n : ℕ) (now new octets rest : List ℕ) (left : ℕ)
    → Copied wanted room filled now (octets ++ rest) left → left < length octets → n ≡ min (length now - filled) (length octets - left)
    → new ≡ take filled now ++ (take n (drop left octets) ++ drop (filled + n) now)
    → (filled + n ≤ length room) × (filled + n ≤ length wanted) × (new ≡ take (filled + n) wanted ++ drop (filled + n) room)
    × (length now ≡ length room)
copied_more wanted room filled n now new octets rest left so h count is =
    let both = sizes wanted room now octets rest filled left so.within so.few so.is so.next h in
    let part : left + n ≤ length octets = omega (arith, count) in (
      omega (arith, count, both.0, so.within),
      omega (arith, count, both.1),
      is
          ∙ ap (λ (xs : List ℕ). take filled xs ++ (take n (drop left octets) ++ drop (filled + n) xs)) so.is
          ∙ ap (λ (xs : List ℕ). xs ++ (take n (drop left octets) ++ drop (filled + n) (take filled wanted ++ drop filled room))) (front_is wanted room filled so.few)
          ∙ ap (λ (xs : List ℕ). take filled wanted ++ (take n (drop left octets) ++ xs)) (back_is wanted room filled n so.few)
          ∙ append_assoc_back (take filled wanted) (take n (drop left octets)) (drop (filled + n) room)
          ∙ ap (λ (xs : List ℕ). (take filled wanted ++ xs) ++ drop (filled + n) room) (sym (within_front octets rest left n part) ∙ ap (λ (xs : List ℕ). take n xs) (sym so.next))
          ∙ ap (λ (xs : List ℕ). xs ++ drop (filled + n) room) (sym (take_more wanted filled n)),
      both.0,
    )
  where
    append_assoc_back : (a b c : List ℕ) → a ++ (b ++ c) ≡ (a ++ b) ++ c
    append_assoc_back a b c = sym (append_assoc a b c)

whole_piece : (octets rest : List ℕ) (left n : ℕ) → left ≤ length octets → n ≡ length octets - left → drop n (drop left (octets ++ rest)) ≡ rest
whole_piece [] rest zero n h e = let none : n ≡ 0 = omega arith in ap (λ (k : ℕ). drop k rest) none
whole_piece [] rest (suc left) n h e = absurd (omega arith)
whole_piece (x ∷ octets) rest zero zero h e = absurd (omega arith)
whole_piece (x ∷ octets) rest zero (suc n) h e = whole_piece octets rest zero n (omega arith) (omega arith)
whole_piece (x ∷ octets) rest (suc left) n h e = whole_piece octets rest left n (omega arith) (omega arith)

-- the room has place for what follows the piece
pub copied_on : (wanted room : List ℕ) (filled n : ℕ) (now new octets rest : List ℕ) (left : ℕ)
    → Copied wanted room filled now (octets ++ rest) left → left < length octets → n ≡ min (length now - filled) (length octets - left)
    → new ≡ take filled now ++ (take n (drop left octets) ++ drop (filled + n) now) → filled + n ≢ length new
    → Copied wanted room (filled + n) new rest 0
copied_on wanted room filled n now new octets rest left so h count is more =
    let made = copied_more wanted room filled n now new octets rest left so h count is in
    let size : length new ≡ length room = ap length made.2 ∙ joined_size made.0 made.1 in
    let whole : n ≡ length octets - left = omega (arith, count, made.3, size, more, made.0) in
    record {
      within = made.0;
      few = made.1;
      is = made.2;
      next = sym (drop-drop n filled wanted) ∙ ap (λ (xs : List ℕ). drop n xs) so.next ∙ whole_piece octets rest left n (omega arith) whole;
    }
  where
    joined_size : filled + n ≤ length room → filled + n ≤ length wanted → length (take (filled + n) wanted ++ drop (filled + n) room) ≡ length room
    joined_size a b = grind (arith, common_steps)

-- nothing follows
pub copied_all : (wanted room : List ℕ) (filled : ℕ) (now rest : List ℕ) (left : ℕ) → Copied wanted room filled now rest left → rest ≡ []
    → filled ≡ min (length room) (length wanted)
copied_all wanted room filled now rest left so none =
    omega (arith, so.within, so.few, length-drop filled wanted, ap length so.next, length-drop left rest, ap length none)
