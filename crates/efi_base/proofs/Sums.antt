-- The sum of words with its carries brought back one by one is the plain sum with all of them brought back at once.
use Rattle.std.proofs.Common.{◌≡◌, ℕ, zero, suc, ◌+◌, ◌-◌, ◌*◌, ◌%◌, ◌^◌, ◌<◌, ◌≤◌, List, [], ◌∷◌, ◌++◌, length, take, drop, refl, sym, ap, ◌∙◌, arith}
use Rattle.std.proofs.lemmas.Bool.Decides.{nat_tests}
use Rattle.std.proofs.Math.Nat.{add-suc, mod-lt, mod-eq_of_lt, add-mod-mod}
use Rattle.std.proofs.lemmas.List.{length-take-le, length-drop, take-append-drop}
use Rattle.byteorder.specs.Endian.{big_number}
use Rattle.efi_base.specs.Carries.{Carries}
use Rattle.efi_base.specs.Checksum.{ones_sum, words, sum_of, plain_sum, checksum_of, AreOctets}

-- a sum with all carries brought back
abbrev pub folded : ℕ → ℕ
folded zero = 0
folded (suc n) = n % 65535 + 1

folded-first : (w : ℕ) → suc w < 65536 → ones_sum (suc w) 0 ≡ folded (suc w + 0)
folded-first w h =
    let e : suc w + 0 ≡ suc w = omega arith in
    let m : w % 65535 ≡ w = mod-eq_of_lt (omega arith) in
    rw e (rw m (grind (arith, nat_tests)))

folded-rest : (w r : ℕ) → w < 65536 → r < 65535 → ones_sum w (r + 1) ≡ (w + r) % 65535 + 1
folded-rest w r h k = grind (arith, nat_tests)

folded-more : (w n : ℕ) → w < 65536 → ones_sum w (n % 65535 + 1) ≡ (w + n) % 65535 + 1
folded-more w n h =
    let bound : n % 65535 < 65535 = mod-lt n (omega arith) in
    let same : (w + n % 65535) % 65535 ≡ (w + n) % 65535 = add-mod-mod w n 65535 in
    rw (← same) (folded-rest w (n % 65535) h bound)

-- one word more
folded-sum : (w total : ℕ) → w < 65536 → ones_sum w (folded total) ≡ folded (w + total)
folded-sum zero zero h = refl
folded-sum (suc w) zero h = folded-first w h
folded-sum w (suc n) h = rw (add-suc w n) (folded-more w n h)

-- the first two octets are the first word
pub words-two : (bytes : List ℕ) → 2 ≤ length bytes → plain_sum (words bytes) ≡ big_number 2 bytes + plain_sum (words (drop 2 bytes))
words-two [] h = absurd (omega arith)
words-two (a ∷ []) h = absurd (omega arith)
words-two (a ∷ b ∷ bytes) h = omega arith

-- the words of octets don't sum to more than 65,535 for each octet
pub words-bound : (bytes : List ℕ) → AreOctets bytes → plain_sum (words bytes) ≤ 65535 * length bytes
words-bound [] h = omega arith
words-bound (a ∷ []) h = let x : a < 256 = h 0 in omega arith
words-bound (a ∷ b ∷ bytes) h =
    let x : a < 256 = h 0 in
    let y : b < 256 = h 1 in
    let r : plain_sum (words bytes) ≤ 65535 * length bytes = words-bound bytes (λ i. h (suc (suc i))) in
    omega arith

-- a part of an even length keeps its words
pub words-append : (first second : List ℕ) → length first % 2 ≡ 0 → plain_sum (words (first ++ second)) ≡ plain_sum (words first) + plain_sum (words second)
words-append [] second h = omega arith
words-append (a ∷ []) second h = absurd (omega arith)
words-append (a ∷ b ∷ first) second h =
    let e : length first % 2 ≡ 0 = omega arith in
    let r : plain_sum (words (first ++ second)) ≡ plain_sum (words first) + plain_sum (words second) = words-append first second e in
    omega arith

-- the sum with its carries is the plain sum with all of them brought back
pub sum_of-folded : (bytes : List ℕ) → AreOctets bytes → sum_of (words bytes) ≡ folded (plain_sum (words bytes))
sum_of-folded [] h = refl
sum_of-folded (a ∷ []) h = let x : a < 256 = h 0 in folded-sum (a * 256) 0 (omega arith)
sum_of-folded (a ∷ b ∷ bytes) h =
    let x : a < 256 = h 0 in
    let y : b < 256 = h 1 in
    let r = sum_of-folded bytes (λ i. h (suc (suc i))) in
    ap (ones_sum (a * 256 + b)) r ∙ folded-sum (a * 256 + b) (plain_sum (words bytes)) (omega arith)

pub octets-append : (first second : List ℕ) → AreOctets first → AreOctets second → AreOctets (first ++ second)
octets-append [] second a b i = b i
octets-append (x ∷ first) second a b zero = a 0
octets-append (x ∷ first) second a b (suc i) = octets-append first second (λ i. a (suc i)) b i

-- carries in other places come back to the same
pub carries-folded : (total sum : ℕ) → Carries total sum → folded total ≡ folded sum
carries-folded total zero c =
    let none : c.more ≡ 0 = c.zero_ refl in
    let e : total ≡ 0 = omega (arith, c.is) in
    rw e refl
carries-folded total (suc n) c =
    let e : total ≡ suc (65535 * c.more + n) = omega (arith, c.is) in
    let m : (65535 * c.more + n) % 65535 ≡ n % 65535 = omega arith in
    rw e (omega arith)

-- the carries of two parts
pub carries-both : {first second one other : ℕ} → Carries first one → Carries second other → Carries (first + second) (one + other)
carries-both {first = first} {second = second} {one = one} {other = other} c d = record {
  more = c.more + d.more;
  is = omega (arith, c.is, d.is);
  zero_ = λ z. let x : c.more ≡ 0 = c.zero_ (omega arith) in let y : d.more ≡ 0 = d.zero_ (omega arith) in omega arith;
}

-- the checksum of two parts, by a total that has all carries of their words
pub checksum_of-parts : (first second : List ℕ) (total : ℕ) → AreOctets first → AreOctets second → length first % 2 ≡ 0
    → Carries total (plain_sum (words first) + plain_sum (words second)) → 65535 - folded total ≡ checksum_of (first ++ second)
unfolding checksum_of
checksum_of-parts first second total a b even c =
    let joined = words-append first second even in
    let same = sum_of-folded (first ++ second) (octets-append first second a b) in
    rw (same, joined, carries-folded total _ c) refl

-- a sum that isn't 0, as the code folds it
pub folded-positive : (total : ℕ) → 0 < total → (total - 1) % 65535 + 1 ≡ folded total
folded-positive zero h = absurd (omega arith)
folded-positive (suc n) h = let e : suc n - 1 ≡ n = omega arith in rw e refl

-- what was added so far, of octets of which these are left
pub record SumsSoFar (total : ℕ) (left bytes : List ℕ) : Type 0 where
  pub sum : ℕ
  pub carries : Carries total sum
  pub split : sum + plain_sum (words left) ≡ plain_sum (words bytes)
  pub shorter : length left ≤ length bytes
  pub bound : total ≤ 2 ^ 64 * (length bytes - length left)

-- a word of 64 bits has the carries of its four words of 16 bits
big_word : (bytes : List ℕ) → 8 ≤ length bytes → Carries (big_number 8 bytes) (plain_sum (words (take 8 bytes)))
big_word [] l = absurd (omega arith)
big_word (a ∷ []) l = absurd (omega arith)
big_word (a ∷ b ∷ []) l = absurd (omega arith)
big_word (a ∷ b ∷ c ∷ []) l = absurd (omega arith)
big_word (a ∷ b ∷ c ∷ d ∷ []) l = absurd (omega arith)
big_word (a ∷ b ∷ c ∷ d ∷ e ∷ []) l = absurd (omega arith)
big_word (a ∷ b ∷ c ∷ d ∷ e ∷ f ∷ []) l = absurd (omega arith)
big_word (a ∷ b ∷ c ∷ d ∷ e ∷ f ∷ g ∷ []) l = absurd (omega arith)
big_word (a ∷ b ∷ c ∷ d ∷ e ∷ f ∷ g ∷ h ∷ bytes) l = record {
  more = (a * 256 + b) * 4295032833 + (c * 256 + d) * 65537 + (e * 256 + f);
  is = omega arith;
  zero_ = λ z. omega arith;
}

-- the words of the first eight octets and of the others
words-eight : (bytes : List ℕ) → 8 ≤ length bytes → plain_sum (words bytes) ≡ plain_sum (words (take 8 bytes)) + plain_sum (words (drop 8 bytes))
words-eight bytes l =
    let e : length (take 8 bytes) ≡ 8 = length-take-le 8 bytes l in
    ap (λ (xs : List ℕ). plain_sum (words xs)) (sym (take-append-drop 8 bytes)) ∙ words-append (take 8 bytes) (drop 8 bytes) (rw e refl)

-- a word more
pub sums-more : (total : ℕ) (left bytes : List ℕ) → 8 ≤ length left → big_number 8 left < 2 ^ 64 → SumsSoFar total left bytes → SumsSoFar (total + big_number 8 left) (drop 8 left) bytes
sums-more total left bytes l small s =
    let word = big_word left l in
    let eight = words-eight left l in
    let rest : length (drop 8 left) ≡ length left - 8 = length-drop 8 left in
    record {
      sum = s.sum + plain_sum (words (take 8 left));
      carries = carries-both s.carries word;
      split = omega (arith, s.split, eight);
      shorter = omega (arith, s.shorter, rest);
      bound = rw rest (omega (arith, s.bound, s.shorter, small));
    }

-- the words that are left
pub sums-all : (total short : ℕ) (left bytes : List ℕ) → SumsSoFar total left bytes → short ≡ plain_sum (words left) → Carries (total + short) (plain_sum (words bytes))
sums-all total short left bytes s e = record {
  more = s.carries.more;
  is = omega (arith, s.carries.is, s.split, e);
  zero_ = λ z. s.carries.zero_ (omega (arith, s.split));
}

-- a total of 0
pub folded-none : (total : ℕ) → total ≡ 0 → 65535 - folded total ≡ 65535
folded-none zero h = refl
folded-none (suc n) h = absurd (omega arith)
