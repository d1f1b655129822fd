-- A checksum that was filled in completes the sum, and a changed word changes it.
use Rattle.std.proofs.Common.{◌≡◌, ℕ, zero, suc, ◌+◌, ◌-◌, ◌%◌, ◌^◌, ◌<◌, List, [], ◌∷◌, ◌++◌, length, refl, sym, ap, ◌∙◌, arith}
use Rattle.byteorder.specs.Endian.{big_number, big_bytes}
use Rattle.byteorder.specs.Numbers.{big_number-reads_back}
use Rattle.efi_base.specs.Checksum.{words, plain_sum, checksum_of, AreOctets}
use Rattle.efi_base.proofs.Sums.{folded, words-append, sum_of-folded, octets-append}

-- the sum of octets in three parts, whose second is one word
pub sum-with : (front one back : List ℕ) → AreOctets front → AreOctets one → AreOctets back → length front % 2 ≡ 0 → length one ≡ 2
    → checksum_of (front ++ (one ++ back)) ≡ 65535 - folded (big_number 2 one + (plain_sum (words front) + plain_sum (words back)))
unfolding checksum_of
sum-with front [] back f o b even two = absurd (omega arith)
sum-with front (x ∷ []) back f o b even two = absurd (omega arith)
sum-with front (x ∷ y ∷ z ∷ one) back f o b even two = absurd (omega arith)
sum-with front (x ∷ y ∷ []) back f o b even two =
    let joined = words-append front (x ∷ y ∷ back) even in
    let same = sum_of-folded (front ++ (x ∷ y ∷ back)) (octets-append front (x ∷ y ∷ back) f (octets-append (x ∷ y ∷ []) back o b)) in
    let e : plain_sum (words front) + plain_sum (words (x ∷ y ∷ back)) ≡ big_number 2 (x ∷ y ∷ []) + (plain_sum (words front) + plain_sum (words back)) = omega arith in
    ap (λ n. 65535 - n) (same ∙ ap folded (joined ∙ e))

-- the checksum and what it is of fold to all ones
fills : (rest : ℕ) → folded (65535 - folded rest + rest) ≡ 65535
fills zero = refl
fills (suc n) =
    let e : 65535 - (n % 65535 + 1) + suc n ≡ suc (65534 - n % 65535 + n) = omega arith in
    let m : (65534 - n % 65535 + n) % 65535 ≡ 65534 = omega arith in
    rw (e, m) refl

-- all ones leave a sum that isn't 0 as it is
ones-stay : (rest : ℕ) → 65535 - folded rest ≡ 0 → 65535 - folded (65535 + rest) ≡ 0
ones-stay zero h = absurd (omega arith)
ones-stay (suc n) h =
    let e : 65535 + suc n ≡ suc (65535 + n) = omega arith in
    let m : (65535 + n) % 65535 ≡ n % 65535 = omega arith in
    rw (e, m) h

octets-of : (x : ℕ) → AreOctets (big_bytes 2 x)
octets-of x zero = omega arith
octets-of x (suc zero) = omega arith
octets-of x (suc (suc i)) = omega arith

small : (rest : ℕ) → 65535 - rest < 256 ^ 2
small rest = omega arith

none : (rest : ℕ) → big_number 2 (big_bytes 2 0) + rest ≡ rest
none rest = omega arith

pub filled-in : (front back : List ℕ) → AreOctets front → AreOctets back → length front % 2 ≡ 0
    → checksum_of (front ++ (big_bytes 2 (checksum_of (front ++ (big_bytes 2 0 ++ back))) ++ back)) ≡ 0
filled-in front back f b even =
    let rest = plain_sum (words front) + plain_sum (words back) in
    let zeroed : checksum_of (front ++ (big_bytes 2 0 ++ back)) ≡ 65535 - folded rest = sum-with front (big_bytes 2 0) back f (octets-of 0) b even refl ∙ ap (λ x. 65535 - folded x) (none rest) in
    let c = 65535 - folded rest in
    let filled = sum-with front (big_bytes 2 c) back f (octets-of c) b even refl in
    let number : big_number 2 (big_bytes 2 c) ≡ c = big_number-reads_back 2 c [] (small (folded rest)) in
    ap (λ x. checksum_of (front ++ (big_bytes 2 x ++ back))) zeroed ∙ filled ∙ ap (λ x. 65535 - folded (x + rest)) number ∙ ap (λ x. 65535 - x) (fills rest)

pub filled-ones : (front back : List ℕ) → AreOctets front → AreOctets back → length front % 2 ≡ 0
    → checksum_of (front ++ (big_bytes 2 0 ++ back)) ≡ 0 → checksum_of (front ++ (big_bytes 2 65535 ++ back)) ≡ 0
filled-ones front back f b even h =
    let rest = plain_sum (words front) + plain_sum (words back) in
    let zeroed : checksum_of (front ++ (big_bytes 2 0 ++ back)) ≡ 65535 - folded rest = sum-with front (big_bytes 2 0) back f (octets-of 0) b even refl ∙ ap (λ x. 65535 - folded x) (none rest) in
    sum-with front (big_bytes 2 65535) back f (octets-of 65535) b even refl ∙ ones-stay rest (sym zeroed ∙ h)

folded-small : (n : ℕ) → folded n < 65536
folded-small zero = omega arith
folded-small (suc n) = omega arith

-- equal sums have equal words, but for 0 and all ones
same-folds : (x y rest : ℕ) → folded (x + rest) ≡ folded (y + rest) → x % 65535 ≡ y % 65535
same-folds zero zero zero h = refl
same-folds zero (suc y) zero h =
    let e : suc y + 0 ≡ suc y = omega arith in
    let g : 0 ≡ y % 65535 + 1 = rw e at h in
    absurd (omega arith)
same-folds (suc x) zero zero h =
    let e : suc x + 0 ≡ suc x = omega arith in
    let g : x % 65535 + 1 ≡ 0 = rw e at h in
    absurd (omega arith)
same-folds (suc x) (suc y) zero h =
    let e : suc x + 0 ≡ suc x = omega arith in
    let f : suc y + 0 ≡ suc y = omega arith in
    let g : x % 65535 + 1 ≡ y % 65535 + 1 = rw (e, f) at h in
    omega arith
same-folds x y (suc n) h =
    let e : x + suc n ≡ suc (x + n) = omega arith in
    let f : y + suc n ≡ suc (y + n) = omega arith in
    let g : (x + n) % 65535 + 1 ≡ (y + n) % 65535 + 1 = rw (e, f) at h in
    omega arith

pub changed-word : (front one other back : List ℕ) → AreOctets front → AreOctets one → AreOctets other → AreOctets back
    → length front % 2 ≡ 0 → length one ≡ 2 → length other ≡ 2
    → checksum_of (front ++ (one ++ back)) ≡ checksum_of (front ++ (other ++ back))
    → big_number 2 one % 65535 ≡ big_number 2 other % 65535
changed-word front one other back f o p b even two too h =
    let rest = plain_sum (words front) + plain_sum (words back) in
    let x = folded-small (big_number 2 one + rest) in
    let y = folded-small (big_number 2 other + rest) in
    let e : 65535 - folded (big_number 2 one + rest) ≡ 65535 - folded (big_number 2 other + rest) = sym (sum-with front one back f o b even two) ∙ h ∙ sum-with front other back f p b even too in
    same-folds (big_number 2 one) (big_number 2 other) rest (omega arith)
