-- What a word may look like: `--..`, `-..`, or without a hyphen in front.
use Rattle.std.proofs.Common.{◌≡◌, ◌∙◌, ◌⊎◌, inl, inr, ℕ, Bool, true, false, not, ◌&&◌, ◌==◌, suc, [], ◌∷◌, length, Option, Some, None, codes, refl, sym, ap, subst, true≢false, arith}
use Rattle.std.specs.Prelude.{slice_get, encode_utf8_all}
use Rattle.std.specs.Str.{bytes_eq, chars, IsUtf8}
use Rattle.std.proofs.lemmas.Bool.{and_parts}
use Rattle.std.proofs.lemmas.Str.{chars_from_encodes}
use Rattle.clap.proofs.OnLiterals.{clap_on_literals}
use Rattle.clap.specs.Lexer.{long_of, name_and_value, short_of}
use Rattle.clap.specs.Walk.{Text, is_empty}
use Rattle.boot_words.specs.Lines.{is_word}
use Rattle.boot_words.specs.Grammar.{begins_with_hyphen}

pub not_true : (b : Bool) → not b ≡ true → b ≡ false
not_true true h = sym h
not_true false h = refl

pub no_dashes : (word : Text) → is_word word ≡ true → bytes_eq word (45 ∷ 45 ∷ []) ≡ false
no_dashes word h = not_true _ (and_parts (not (bytes_eq word (codes "-"))) _ (and_parts (not (is_empty word)) _ h).1).1

no_dash : (word : Text) → is_word word ≡ true → bytes_eq word (45 ∷ []) ≡ false
no_dash word h = not_true _ (and_parts (not (bytes_eq word (codes "-"))) _ (and_parts (not (is_empty word)) _ h).1).0

all_of_one : (cs : Text) → cs ≡ 45 ∷ [] → length (encode_utf8_all cs) ≡ 1
unfolding clap_on_literals
all_of_one cs e = ap (λ (xs : Text). length (encode_utf8_all xs)) e

first_is : (cs : Text) → (length cs ≡ 0 → ⊥) → (x : ℕ) × (slice_get cs 0 ≡ Some x)
first_is [] h = absurd (h refl)
first_is (x ∷ xs) h = (x, refl)

chars_after_hyphen : (flags : Text) → chars (45 ∷ flags) ≡ 45 ∷ chars flags
unfolding chars
chars_after_hyphen [] = refl
chars_after_hyphen (f ∷ fs) = refl

pub first_char : (f : ℕ) (fs : Text) → IsUtf8 (45 ∷ f ∷ fs) → (x : ℕ) × (slice_get (chars (f ∷ fs)) 0 ≡ Some x)
first_char f fs u = first_is (chars (f ∷ fs)) (λ none. two (u.0) (chars_from_encodes u.0 (45 ∷ f ∷ fs) u u.1.1 ∙ chars_after_hyphen (f ∷ fs)) u.1.1 none)
  where
    nil : (cs : Text) → length cs ≡ 0 → cs ≡ []
    nil [] e = refl
    nil (x ∷ xs) e = absurd (omega (arith, e))

    two : (cs : Text) → cs ≡ 45 ∷ chars (f ∷ fs) → encode_utf8_all cs ≡ 45 ∷ f ∷ fs → length (chars (f ∷ fs)) ≡ 0 → ⊥
    two cs is enc none =
        let one = all_of_one cs (is ∙ ap (λ (t : Text). 45 ∷ t) (nil (chars (f ∷ fs)) none)) in
        let more : length (encode_utf8_all cs) ≡ suc (suc (length fs)) = ap length enc in
        omega (arith, one, more)

-- `--..`
abbrev pub IsLong : Text → Type 0
IsLong word = (p : Text × Option Text) × ((long_of word ≡ Some p) × (begins_with_hyphen word ≡ true))

-- `-..`
abbrev pub IsShort : Text → Type 0
IsShort word = (f : ℕ) × (fs : Text) × (x : ℕ) × ((long_of word ≡ None) × (short_of word ≡ Some (f ∷ fs)) × (slice_get (chars (f ∷ fs)) 0 ≡ Some x) × (begins_with_hyphen word ≡ true))

abbrev pub IsPlain : Text → Type 0
IsPlain word = (long_of word ≡ None) × (short_of word ≡ None) × (begins_with_hyphen word ≡ false)

abbrev pub Looks : Text → Type 0
Looks word = IsLong word ⊎ (IsShort word ⊎ IsPlain word)

-- after one hyphen
hyphened : (rest : Text) → IsUtf8 (45 ∷ rest) → bytes_eq (45 ∷ rest) (45 ∷ []) ≡ false → bytes_eq (45 ∷ rest) (45 ∷ 45 ∷ []) ≡ false → Looks (45 ∷ rest)
hyphened [] u dash dashes = absurd (true≢false dash)
hyphened (f ∷ fs) u dash dashes = go (f == 45) refl
  where
    long : (xs : Text) → (f == 45) ≡ true → bytes_eq (45 ∷ f ∷ xs) (45 ∷ 45 ∷ []) ≡ false → Looks (45 ∷ f ∷ xs)
    long [] e other = absurd (true≢false (sym (ap (λ (b : Bool). b && true) e) ∙ other))
    long (x ∷ xs) e other = inl (name_and_value (x ∷ xs), (rw e refl, refl))

    go : (b : Bool) → (f == 45) ≡ b → Looks (45 ∷ f ∷ fs)
    go true e = long fs e dashes
    go false e =
        let first = first_char f fs u in
        inr (inl (f, fs, first.0, (rw e refl, rw e refl, first.1, refl)))

pub looks : (word : Text) → IsUtf8 word → is_word word ≡ true → Looks word
looks [] u h = absurd (true≢false (sym h))
looks (b ∷ rest) u h = go (b == 45) refl
  where
    hyphen : (n : ℕ) → (n == 45) ≡ true → n ≡ 45
    hyphen n e = grind (arith, e)

    go : (t : Bool) → (b == 45) ≡ t → Looks (b ∷ rest)
    go true e =
        let is = hyphen b e in
        subst (λ (n : ℕ). Looks (n ∷ rest)) (sym is) (hyphened rest (subst (λ (n : ℕ). IsUtf8 (n ∷ rest)) is u)
        (subst (λ (n : ℕ). bytes_eq (n ∷ rest) (45 ∷ []) ≡ false) is (no_dash (b ∷ rest) h))
        (subst (λ (n : ℕ). bytes_eq (n ∷ rest) (45 ∷ 45 ∷ []) ≡ false) is (no_dashes (b ∷ rest) h)))
    go false e = inr (inr (rw e refl, rw e refl, e))
