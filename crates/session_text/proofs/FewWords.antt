-- Words one behind the other, of which there are at most so many.
use Rattle.std.proofs.Common.{◌≡◌, ℕ, zero, suc, ◌+◌, ◌<◌, ◌≤◌, Bool, true, false, cond, List, [], ◌∷◌, ◌++◌, length, Option, Some, None, refl, ap, sym, ◌∙◌, append_assoc, subst, arith, nat_lt}
use Rattle.std.proofs.lemmas.Bool.Decides.{nat_tests}
use Rattle.std.proofs.lemmas.Grind.{common_steps}
use Rattle.std.specs.Option.{option_map, option_and_then}
use Rattle.session_text.specs.Words.{split, few_words, words_from, put_word}

-- what a word more makes of the list
record Added {A : Type 0} (found : Option A) (items new : List A) : Type 0 where
  item : A
  is : found ≡ Some item
  same : new ≡ items ++ (item ∷ [])

added : {A : Type 0} (room : Bool) (found : Option A) (items new : List A)
    → option_and_then (λ a. cond room (Some (items ++ (a ∷ []))) None) found ≡ Some new → Added found items new
added room None items new e = absurd (cc)
added true (Some a) items new e = record { item = a; is = refl; same = cc }
added false (Some a) items new e = absurd (cc)

not_added : {A : Type 0} (room : Bool) (found : Option A) (items : List A)
    → option_and_then (λ a. cond room (Some (items ++ (a ∷ []))) None) found ≡ None → room ≡ true → found ≡ None
not_added room None items e h = refl
not_added true (Some a) items e h = absurd (cc)
not_added false (Some a) items e h = absurd (cc)

has_room : (n most : ℕ) → n < most → nat_lt n most ≡ true
has_room n most h = grind (arith, nat_tests)

pub put_longer : {A : Type 0} (word : List ℕ → Option A) (most : ℕ) (items new : List A) (text : List ℕ)
    → put_word word most items text ≡ Some new → length new ≡ length items + 1
put_longer word most items new text e =
    let more = added (nat_lt (length items) most) (word text) items new e in
    ap length more.same ∙ grind (arith, common_steps)

joined : {A : Type 0} (items : List A) (a : A) (later : Option (List A))
    → option_map (λ later. items ++ later) (option_map (λ later. a ∷ later) later) ≡ option_map (λ later. (items ++ (a ∷ [])) ++ later) later
joined items a None = refl
joined items a (Some later) = ap (λ xs. Some xs) (sym (append_assoc items (a ∷ []) later))

left_is : (left n : ℕ) → left ≡ n + 1 → left ≡ suc n
left_is left n e = omega arith

-- so many words, of which one is read
one_read : {A : Type 0} (word : List ℕ → Option A) (left n : ℕ) (text : List ℕ) (items : List A) (parts : Option (List ℕ × List ℕ)) (whole : Option (List A))
    → left ≡ n + 1 → split text ≡ parts → whole ≡ option_map (λ later. items ++ later) (few_words word left text)
    → whole ≡ option_map (λ later. items ++ later) (words_from word (few_words word n) text parts)
unfolding few_words
one_read {A} word left n text items parts whole more is w =
    w
    ∙ ap (λ (k : ℕ). option_map (λ (later : List A). items ++ later) (few_words word k text)) (left_is left n more)
    ∙ ap (λ (p : Option (List ℕ × List ℕ)). option_map (λ (later : List A). items ++ later) (words_from word (few_words word n) text p)) is

-- one word with others behind it
pub put_more : {A : Type 0} (word : List ℕ → Option A) (most left n : ℕ) (text first rest : List ℕ) (items new : List A) (whole : Option (List A))
    → left ≡ n + 1 → split text ≡ Some (first, rest) → put_word word most items first ≡ Some new
    → whole ≡ option_map (λ later. items ++ later) (few_words word left text)
    → whole ≡ option_map (λ later. new ++ later) (few_words word n rest)
put_more {A} word most left n text first rest items new whole more parts e w =
    let one = added (nat_lt (length items) most) (word first) items new e in
    one_read word left n text items (Some (first, rest)) whole more parts w
    ∙ ap (λ (found : Option A). option_map (λ (later : List A). items ++ later) (option_and_then (λ a. option_map (λ later. a ∷ later) (few_words word n rest)) found)) one.is
    ∙ joined items one.item (few_words word n rest)
    ∙ ap (λ (xs : List A). option_map (λ (later : List A). xs ++ later) (few_words word n rest)) (sym one.same)

-- the last word
pub put_last : {A : Type 0} (word : List ℕ → Option A) (most left n : ℕ) (text : List ℕ) (items new : List A) (whole : Option (List A))
    → left ≡ n + 1 → split text ≡ None → put_word word most items text ≡ Some new
    → whole ≡ option_map (λ later. items ++ later) (few_words word left text)
    → Some new ≡ whole
put_last {A} word most left n text items new whole more parts e w =
    let one = added (nat_lt (length items) most) (word text) items new e in
    sym (
    one_read word left n text items None whole more parts w
    ∙ ap (λ (found : Option A). option_map (λ (later : List A). items ++ later) (option_map (λ a. a ∷ []) found)) one.is
    ∙ ap (λ (xs : List A). Some xs) (sym one.same)
    )

-- one that is bad
pub put_bad : {A : Type 0} (word : List ℕ → Option A) (most left n : ℕ) (text first rest : List ℕ) (items : List A) (whole : Option (List A))
    → left ≡ n + 1 → split text ≡ Some (first, rest) → put_word word most items first ≡ None → length items < most
    → whole ≡ option_map (λ later. items ++ later) (few_words word left text)
    → None ≡ whole
put_bad {A} word most left n text first rest items whole more parts e room w =
    sym (
    one_read word left n text items (Some (first, rest)) whole more parts w
    ∙ ap (λ (found : Option A). option_map (λ (later : List A). items ++ later) (option_and_then (λ a. option_map (λ later. a ∷ later) (few_words word n rest)) found))
    (not_added (nat_lt (length items) most) (word first) items e (has_room (length items) most room))
    )

pub put_bad_last : {A : Type 0} (word : List ℕ → Option A) (most left n : ℕ) (text : List ℕ) (items : List A) (whole : Option (List A))
    → left ≡ n + 1 → split text ≡ None → put_word word most items text ≡ None → length items < most
    → whole ≡ option_map (λ later. items ++ later) (few_words word left text)
    → None ≡ whole
put_bad_last {A} word most left n text items whole more parts e room w =
    sym (
    one_read word left n text items None whole more parts w
    ∙ ap (λ (found : Option A). option_map (λ (later : List A). items ++ later) (option_map (λ a. a ∷ []) found))
    (not_added (nat_lt (length items) most) (word text) items e (has_room (length items) most room))
    )

-- no word more
pub none_left : {A : Type 0} (word : List ℕ → Option A) (left : ℕ) (text : List ℕ) (items : List A) (whole : Option (List A)) → left ≤ 0
    → whole ≡ option_map (λ later. items ++ later) (few_words word left text) → None ≡ whole
unfolding few_words
none_left {A} word zero text items whole few w = sym w
none_left {A} word (suc n) text items whole few w = absurd (omega arith)

whole_map : {A : Type 0} (found : Option (List A)) → found ≡ option_map (λ (later : List A). [] ++ later) found
whole_map None = refl
whole_map (Some xs) = refl

-- no word was read
pub few_start : {A : Type 0} (word : List ℕ → Option A) (n : ℕ) (text : List ℕ) (items : List A) → items ≡ []
    → (few_words word n text ≡ option_map (λ (later : List A). items ++ later) (few_words word n text)) × (length items + n ≡ n)
few_start {A} word n text items none =
    let P : List A → Type 0 = λ xs. (few_words word n text ≡ option_map (λ (later : List A). xs ++ later) (few_words word n text)) × (length xs + n ≡ n) in
    subst P (sym none) (whole_map (few_words word n text), omega arith)
