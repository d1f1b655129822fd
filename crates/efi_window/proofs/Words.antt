-- The bits of words, one by one.
use Rattle.std.proofs.Common.{inl, inr, ◌∙◌, ◌≡◌, ℕ, zero, suc, ◌+◌, ◌-◌, ◌*◌, ◌/◌, ◌%◌, ◌^◌, ◌<◌, ◌≤◌, ◌==◌, Bool, false, List, [], ◌∷◌, ◌++◌, length, get_or, set, replicate, min, bit_and, bit_or, w64, refl, ap, sym, arith}
use Rattle.std.specs.Int.{bit_at, bit_not}
use Rattle.std.proofs.lemmas.List.{get_or-set_other}
use Rattle.std.proofs.lemmas.Grind.{get_or-set_at}
use Rattle.std.proofs.lemmas.Nat.{shr-shr}
use Rattle.std.proofs.lemmas.Nat.Bits.{bit_at_and, bit_at_or, bit_at_not, bit_at-lt, bit_at-zero, bit_at_ones, bit_at_ones_above, bit_at_mask_inside, bit_at_mask_below, ones_shl, ones_shr}
use Rattle.std.proofs.lemmas.Bool.{cases_eq}
use Rattle.efi_window.specs.Kept.{is_kept}

-- a bit of a word that was shifted
pub bit-shifted : (word from i : ℕ) → bit_at (word / 2 ^ from) i ≡ bit_at word (from + i)
bit-shifted word from i = ap (λ n. n % 2) (shr-shr word from i)

pub bit-behind : (word from i : ℕ) → from ≤ i → bit_at word i ≡ bit_at (word / 2 ^ from) (i - from)
bit-behind word from i h =
    let e : from + (i - from) ≡ i = omega arith in
    ap (bit_at word) (sym e) ∙ sym (bit-shifted word from (i - from))

pub none-behind : (word from i : ℕ) → from ≤ i → word / 2 ^ from ≡ 0 → bit_at word i ≡ 0
none-behind word from i h e = bit-behind word from i h ∙ ap (λ n. bit_at n (i - from)) e ∙ bit_at-zero (i - from)

-- bits that are the same in two words
pub is-one : (a b : ℕ) → a ≡ b → (a == 1) ≡ (b == 1)
is-one a b e = ap (λ n. n == 1) e

-- a word's bits
pub run-here : (words : List ℕ) (at run i : ℕ) (v : Bool) → at ≤ i → i < at + run → at % 64 + run ≤ 64
    → ((j : ℕ) → at % 64 ≤ j → j < at % 64 + run → (bit_at (get_or words (at / 64) 0) j == 1) ≡ v) → is_kept words i ≡ v
unfolding is_kept
run-here words at run i v a b c e =
    let k : i / 64 ≡ at / 64 = omega arith in
    rw k (e (i % 64) (omega arith) (omega arith))

pub run-stops : (words : List ℕ) (at run : ℕ) (v : Bool) → at % 64 + run < 64
    → (bit_at (get_or words (at / 64) 0) (at % 64 + run) == 1) ≡ v → is_kept words (at + run) ≡ v
unfolding is_kept
run-stops words at run v h e =
    let k : (at + run) / 64 ≡ at / 64 = omega arith in
    let b : (at + run) % 64 ≡ at % 64 + run = omega arith in
    rw k (rw b e)

-- a word of which each bit is the same
pub run-through : (words : List ℕ) (word i : ℕ) (v : Bool) → get_or words (i / 64) 0 ≡ word
    → ((j : ℕ) → j < 64 → (bit_at word j == 1) ≡ v) → is_kept words i ≡ v
unfolding is_kept
run-through words word i v e f = rw e (f (i % 64) (omega arith))

-- a word was written
pub word-inside : (words : List ℕ) (at high word i : ℕ) (v : Bool) → at / 64 < length words → at ≤ i → i < at + (high - at % 64)
    → at % 64 < high → high ≤ 64 → ((j : ℕ) → at % 64 ≤ j → j < high → (bit_at word j == 1) ≡ v)
    → is_kept (set words (at / 64) word) i ≡ v
unfolding is_kept
word-inside words at high word i v h a b c d e =
    let k : i / 64 ≡ at / 64 = omega arith in
    rw (get_or-set_at words (at / 64) (i / 64) word 0 k h) (e (i % 64) (omega arith) (omega arith))

word-other : (words : List ℕ) (at word i : ℕ) → at / 64 < length words
    → (i / 64 ≡ at / 64 → bit_at word (i % 64) ≡ bit_at (get_or words (at / 64) 0) (i % 64))
    → is_kept (set words (at / 64) word) i ≡ is_kept words i
unfolding is_kept
word-other words at word i h e = elim (cases_eq (i / 64) (at / 64)) [ inl k ↦ rw (get_or-set_at words (at / 64) (i / 64) word 0 k h) (is-one _ _ (e k ∙ ap (λ n. bit_at (get_or words n 0) (i % 64)) (sym k))) | inr k ↦ ap (λ n. bit_at n (i % 64) == 1) (get_or-set_other words (at / 64) (i / 64) word 0 k) ]

pub word-below : (words : List ℕ) (at word i : ℕ) → at / 64 < length words → i < at
    → ((j : ℕ) → j < at % 64 → bit_at word j ≡ bit_at (get_or words (at / 64) 0) j)
    → is_kept (set words (at / 64) word) i ≡ is_kept words i
word-below words at word i h a e = word-other words at word i h (λ k. e (i % 64) (omega arith))

pub word-above : (words : List ℕ) (at high word i : ℕ) → at / 64 < length words → at % 64 < high → at + (high - at % 64) ≤ i
    → ((j : ℕ) → high ≤ j → j < 64 → bit_at word j ≡ bit_at (get_or words (at / 64) 0) j)
    → is_kept (set words (at / 64) word) i ≡ is_kept words i
word-above words at high word i h b a e = word-other words at word i h (λ k. e (i % 64) (omega arith) (omega arith))

-- the bits of a mask
pub mask-bits : (low high i : ℕ) → low < high → high ≤ 64
    → bit_at (bit_and ((2 ^ 64 - 1) * 2 ^ low % 2 ^ 64) ((2 ^ 64 - 1) / 2 ^ (64 - high))) i ≡ min (bit_at (2 ^ 64 - 2 ^ low) i) (bit_at (2 ^ high - 1) i)
mask-bits low high i h k =
    let l : (2 ^ 64 - 1) * 2 ^ low % 2 ^ 64 ≡ 2 ^ 64 - 2 ^ low = ones_shl 64 low (omega arith) in
    let e : 64 - (64 - high) ≡ high = omega arith in
    let r : (2 ^ 64 - 1) / 2 ^ (64 - high) ≡ 2 ^ high - 1 = ones_shr 64 (64 - high) (omega arith) ∙ ap (λ n. 2 ^ n - 1) e in
    bit_at_and _ _ i ∙ ap (λ n. min (bit_at n i) (bit_at ((2 ^ 64 - 1) / 2 ^ (64 - high)) i)) l ∙ ap (λ n. min (bit_at (2 ^ 64 - 2 ^ low) i) (bit_at n i)) r

pub mask-inside : (low high i : ℕ) → low < high → high ≤ 64 → low ≤ i → i < high
    → bit_at (bit_and ((2 ^ 64 - 1) * 2 ^ low % 2 ^ 64) ((2 ^ 64 - 1) / 2 ^ (64 - high))) i ≡ 1
mask-inside low high i h k a b =
    mask-bits low high i h k ∙ rw (bit_at_mask_inside low 64 i a (omega arith)) (rw (bit_at_ones high i b) refl)

pub mask-below : (low high i : ℕ) → low < high → high ≤ 64 → i < low
    → bit_at (bit_and ((2 ^ 64 - 1) * 2 ^ low % 2 ^ 64) ((2 ^ 64 - 1) / 2 ^ (64 - high))) i ≡ 0
mask-below low high i h k a =
    mask-bits low high i h k ∙ rw (bit_at_mask_below low 64 i a) (omega arith)

pub mask-above : (low high i : ℕ) → low < high → high ≤ 64 → high ≤ i
    → bit_at (bit_and ((2 ^ 64 - 1) * 2 ^ low % 2 ^ 64) ((2 ^ 64 - 1) / 2 ^ (64 - high))) i ≡ 0
mask-above low high i h k a =
    mask-bits low high i h k ∙ rw (bit_at_ones_above high i a) (omega arith)

-- a word joined with a mask, and without one
pub or-in : (word run i : ℕ) → bit_at run i ≡ 1 → bit_at (bit_or word run) i ≡ 1
or-in word run i e = omega (arith, bit_at_or word run i, bit_at-lt word i, e)

pub or-out : (word run i : ℕ) → bit_at run i ≡ 0 → bit_at (bit_or word run) i ≡ bit_at word i
or-out word run i e = omega (arith, bit_at_or word run i, e)

pub without-in : (word run i : ℕ) → run < 2 ^ 64 → i < 64 → bit_at run i ≡ 1 → bit_at (bit_and word (bit_not w64 run)) i ≡ 0
without-in word run i h k e = omega (arith, bit_at_and word (bit_not w64 run) i, bit_at_not w64 run i h k, e)

pub without-out : (word run i : ℕ) → run < 2 ^ 64 → i < 64 → bit_at run i ≡ 0 → bit_at (bit_and word (bit_not w64 run)) i ≡ bit_at word i
without-out word run i h k e = omega (arith, bit_at_and word (bit_not w64 run) i, bit_at_not w64 run i h k, bit_at-lt word i, e)

-- a word upside down
pub not-zero : (word i : ℕ) → word < 2 ^ 64 → i < 64 → bit_at (bit_not w64 word) i ≡ 0 → bit_at word i ≡ 1
not-zero word i h k e = omega (arith, bit_at_not w64 word i h k, bit_at-lt word i, e)

pub not-one : (word i : ℕ) → word < 2 ^ 64 → i < 64 → bit_at (bit_not w64 word) i ≡ 1 → bit_at word i ≡ 0
not-one word i h k e = omega (arith, bit_at_not w64 word i h k, bit_at-lt word i, e)

-- zeros behind a list say nothing new
all-same : (z n i : ℕ) → get_or (replicate n z) i z ≡ z
all-same z zero i = refl
all-same z (suc n) zero = refl
all-same z (suc n) (suc i) = all-same z n i

pub same-longer : (xs : List ℕ) (z n i : ℕ) → get_or (xs ++ replicate n z) i z ≡ get_or xs i z
same-longer [] z n i = all-same z n i
same-longer (x ∷ xs) z n zero = refl
same-longer (x ∷ xs) z n (suc i) = same-longer xs z n i

pub kept-longer : (words : List ℕ) (n i : ℕ) → is_kept (words ++ replicate n 0) i ≡ is_kept words i
unfolding is_kept
kept-longer words n i = is-one _ _ (ap (λ w. bit_at w (i % 64)) (same-longer words 0 n (i / 64)))

pub none_kept : (i : ℕ) → is_kept [] i ≡ false
unfolding is_kept
none_kept i = is-one _ _ (bit_at-zero (i % 64))
