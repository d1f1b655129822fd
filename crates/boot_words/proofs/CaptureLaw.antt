-- The place of a capture's name, a word at a time.
use Rattle.std.proofs.Common.{◌≡◌, ℕ, zero, suc, ◌+◌, ◌<◌, Bool, true, false, cond, List, [], ◌∷◌, length, drop, get_or, map, Option, Some, None, refl, sym, ap, ◌∙◌, arith}
use Rattle.std.proofs.lemmas.List.{drop_more}
use Rattle.boot_words.specs.Captures.{capture_place, first_place, is_capture, is_capture_with_name, shifted}

-- counted from no word before
pub shifted_none : (place : Option ℕ) → shifted 0 place ≡ place
shifted_none None = refl
shifted_none (Some i) =
    let same : 0 + i ≡ i = omega arith in
    ap (λ (n : ℕ). Some n) same

shifted_twice : (n : ℕ) (place : Option ℕ) → shifted n (shifted 1 place) ≡ shifted (n + 1) place
shifted_twice n None = refl
shifted_twice n (Some i) =
    let same : n + (1 + i) ≡ n + 1 + i = omega arith in
    ap (λ (m : ℕ). Some m) same

-- no such word: on to the next
pub capture_later : (n : ℕ) (word : List ℕ) (rest : List (List ℕ)) → is_capture word ≡ false → is_capture_with_name word ≡ false
    → shifted n (capture_place (word ∷ rest)) ≡ shifted (n + 1) (capture_place rest)
capture_later n word rest one two =
    ap (λ (t : Bool). shifted n (cond t (shifted 1 (first_place rest)) (cond (is_capture_with_name word) (Some 0) (shifted 1 (capture_place rest))))) one
    ∙ ap (λ (t : Bool). shifted n (cond t (Some 0) (shifted 1 (capture_place rest)))) two ∙ shifted_twice n (capture_place rest)

-- the name follows in its own word
pub capture_next : (n : ℕ) (word : List ℕ) (rest : List (List ℕ)) → is_capture word ≡ true
    → shifted n (capture_place (word ∷ rest)) ≡ shifted (n + 1) (first_place rest)
capture_next n word rest one =
    ap (λ (t : Bool). shifted n (cond t (shifted 1 (first_place rest)) (cond (is_capture_with_name word) (Some 0) (shifted 1 (capture_place rest))))) one
    ∙ shifted_twice n (first_place rest)

-- the name stands in the word
pub capture_here : (n : ℕ) (word : List ℕ) (rest : List (List ℕ)) → is_capture word ≡ false → is_capture_with_name word ≡ true
    → shifted n (capture_place (word ∷ rest)) ≡ Some n
capture_here n word rest one two =
    let same : n + 0 ≡ n = omega arith in
    ap (λ (t : Bool). shifted n (cond t (shifted 1 (first_place rest)) (cond (is_capture_with_name word) (Some 0) (shifted 1 (capture_place rest))))) one
    ∙ ap (λ (t : Bool). shifted n (cond t (Some 0) (shifted 1 (capture_place rest)))) two ∙ ap (λ (m : ℕ). Some m) same

pub first_there : (n : ℕ) (rest : List (List ℕ)) → 0 < length rest → shifted n (first_place rest) ≡ Some n
first_there n [] some = absurd (omega arith)
first_there n (word ∷ rest) some =
    let same : n + 0 ≡ n = omega arith in
    ap (λ (m : ℕ). Some m) same

-- words are left from a place on
some_left : {S : Type 0} (f : S → List ℕ) (xs : List S) (k : ℕ) → k < length xs → 0 < length (map f (drop k xs))
some_left f [] k h = absurd (omega arith)
some_left f (x ∷ xs) zero h = omega arith
some_left f (x ∷ xs) (suc k) h = some_left f xs k (omega arith)

-- the word at a place, and those after it
at_word : {S : Type 0} (f : S → List ℕ) (xs : List S) (i : ℕ) (d : S) (word : List ℕ) → i < length xs → word ≡ f (get_or xs i d)
    → capture_place (map f (drop i xs)) ≡ capture_place (word ∷ map f (drop (i + 1) xs))
at_word f xs i d word h is =
    ap (λ ys. capture_place (map f ys)) (drop_more xs i d h)
    ∙ ap (λ (w : List ℕ). capture_place (w ∷ map f (drop (i + 1) xs))) (sym is)

pub later_place : {S : Type 0} (f : S → List ℕ) (xs : List S) (i : ℕ) (d : S) (word : List ℕ) → i < length xs
    → word ≡ f (get_or xs i d) → is_capture word ≡ false → is_capture_with_name word ≡ false
    → shifted i (capture_place (map f (drop i xs))) ≡ shifted (i + 1) (capture_place (map f (drop (i + 1) xs)))
later_place f xs i d word h is one two =
    ap (shifted i) (at_word f xs i d word h is) ∙ capture_later i word (map f (drop (i + 1) xs)) one two

pub next_there : {S : Type 0} (f : S → List ℕ) (xs : List S) (i : ℕ) (d : S) (word : List ℕ) → i < length xs
    → word ≡ f (get_or xs i d) → is_capture word ≡ true → i + 1 < length xs
    → shifted i (capture_place (map f (drop i xs))) ≡ Some (i + 1)
next_there f xs i d word h is one more =
    ap (shifted i) (at_word f xs i d word h is) ∙ capture_next i word (map f (drop (i + 1) xs)) one
    ∙ first_there (i + 1) (map f (drop (i + 1) xs)) (some_left f xs (i + 1) more)

pub first_missing : (n : ℕ) (rest : List (List ℕ)) → length rest ≡ 0 → shifted n (first_place rest) ≡ None
first_missing n [] none = refl
first_missing n (word ∷ rest) none = absurd (omega arith)
