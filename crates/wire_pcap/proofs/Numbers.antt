-- Numbers as octets, in either order.
use Rattle.std.proofs.Common.{◌≡◌, ℕ, zero, suc, ◌+◌, ◌^◌, ◌<◌, ◌≤◌, List, [], ◌∷◌, ◌++◌, length, get_or, take, drop, refl, sym, ap, ◌∙◌, arith}
use Rattle.std.proofs.lemmas.List.{drop_at, length-take-le, get_or-drop}
use Rattle.std.proofs.lemmas.Nat.{be_bytes_4, le_bytes_4}
use Rattle.std.specs.Int.{w32, from_be_bytes, from_le_bytes}
use Rattle.byteorder.specs.Endian.{big_number, little_number}
use Rattle.byteorder.specs.Numbers.{length-bytes_high_first, length-bytes_low_first, big_number-reads_back, little_number-reads_back, big_from-take, little_from-take, big_from-lt, little_from-lt}
use Rattle.wire_pcap.specs.Grammar.{Order, Big, Little, number_text}
use Rattle.wire_pcap.specs.Steps.{number_in, kept_at}

-- each octet of a text is below 256
abbrev pub IsOctets : List ℕ → Type 0
IsOctets bytes = (i : ℕ) → get_or bytes i 0 < 256

pub octets-drop : (n : ℕ) (bytes : List ℕ) → IsOctets bytes → IsOctets (drop n bytes)
octets-drop n bytes octets i = rw (get_or-drop n bytes i 0) (octets (n + i))

pub length-number_text : (order : Order) (n x : ℕ) → length (number_text order n x) ≡ n
length-number_text Big n x = length-bytes_high_first n x
length-number_text Little n x = length-bytes_low_first 0 n x

pub number_in-text : (order : Order) (n x : ℕ) (rest : List ℕ) → x < 256 ^ n → number_in order n (number_text order n x ++ rest) ≡ x
number_in-text Big n x rest fits = big_number-reads_back n x rest fits
number_in-text Little n x rest fits = little_number-reads_back n x rest fits

pub number_in-take : (order : Order) (n m : ℕ) (bytes : List ℕ) → n ≤ m → number_in order n (take m bytes) ≡ number_in order n bytes
number_in-take Big n m bytes le = big_from-take 0 n m bytes (omega arith)
number_in-take Little n m bytes le = little_from-take 0 n m bytes (omega arith)

pub number_in-lt : (order : Order) (n : ℕ) (bytes : List ℕ) → IsOctets bytes → number_in order n bytes < 256 ^ n
number_in-lt Big n bytes octets = big_from-lt 0 n bytes octets
number_in-lt Little n bytes octets = little_from-lt 0 n bytes octets

-- behind a number's octets
pub drop-number_text : (order : Order) (n x : ℕ) (rest : List ℕ) → drop n (number_text order n x ++ rest) ≡ rest
drop-number_text order n x rest = drop_at (number_text order n x) rest n (length-number_text order n x)

big_is : (bytes : List ℕ) → big_number 4 bytes ≡ from_be_bytes w32 bytes
big_is bytes = omega arith

little_is : (bytes : List ℕ) → little_number 4 bytes ≡ from_le_bytes w32 bytes
little_is bytes = omega arith

four : (bytes : List ℕ) → 4 ≤ length bytes → IsOctets bytes → IsOctets (take 4 bytes)
four (a ∷ b ∷ c ∷ d ∷ bytes) there octets zero = octets 0
four (a ∷ b ∷ c ∷ d ∷ bytes) there octets (suc zero) = octets 1
four (a ∷ b ∷ c ∷ d ∷ bytes) there octets (suc (suc zero)) = octets 2
four (a ∷ b ∷ c ∷ d ∷ bytes) there octets (suc (suc (suc zero))) = octets 3
four (a ∷ b ∷ c ∷ d ∷ bytes) there octets (suc (suc (suc (suc i)))) = omega arith
four [] there octets i = omega arith
four (a ∷ []) there octets i = absurd (omega arith)
four (a ∷ b ∷ []) there octets i = absurd (omega arith)
four (a ∷ b ∷ c ∷ []) there octets i = absurd (omega arith)

-- the octets of the number that stands there are those that stand there
pub text-number_in : (order : Order) (bytes : List ℕ) → 4 ≤ length bytes → IsOctets bytes
    → number_text order 4 (number_in order 4 bytes) ≡ take 4 bytes
text-number_in Big bytes there octets =
    be_bytes_4 (take 4 bytes) (big_number 4 bytes) (length-take-le 4 bytes there) (four bytes there octets)
    (sym (number_in-take Big 4 4 bytes (omega arith)) ∙ big_is (take 4 bytes))
text-number_in Little bytes there octets =
    le_bytes_4 (take 4 bytes) (little_number 4 bytes) (length-take-le 4 bytes there) (four bytes there octets)
    (sym (number_in-take Little 4 4 bytes (omega arith)) ∙ little_is (take 4 bytes))

-- the number by its octets
number_by : (order : Order) (xs ys : List ℕ) → get_or xs 0 0 ≡ get_or ys 0 0 → get_or xs 1 0 ≡ get_or ys 1 0
    → get_or xs 2 0 ≡ get_or ys 2 0 → get_or xs 3 0 ≡ get_or ys 3 0 → number_in order 4 xs ≡ number_in order 4 ys
number_by Big xs ys a b c d = omega (arith, a, b, c, d)
number_by Little xs ys a b c d = omega (arith, a, b, c, d)

number_least : (order : Order) (xs ys : List ℕ) → get_or xs 0 0 ≤ get_or ys 0 0 → get_or xs 1 0 ≤ get_or ys 1 0
    → get_or xs 2 0 ≤ get_or ys 2 0 → get_or xs 3 0 ≤ get_or ys 3 0 → number_in order 4 xs ≤ number_in order 4 ys
number_least Big xs ys a b c d = omega (arith, a, b, c, d)
number_least Little xs ys a b c d = omega (arith, a, b, c, d)

get_or-more : (xs ys : List ℕ) (i : ℕ) → get_or xs i 0 ≤ get_or (xs ++ ys) i 0
get_or-more [] ys i = omega arith
get_or-more (x ∷ xs) ys zero = omega arith
get_or-more (x ∷ xs) ys (suc i) = get_or-more xs ys i

-- so many zeros
abbrev pub nulls : ℕ → List ℕ
nulls zero = []
nulls (suc n) = 0 ∷ nulls n

pub length-nulls : (n : ℕ) → length (nulls n) ≡ n
length-nulls zero = refl
length-nulls (suc n) = ap suc (length-nulls n)

get_or-only_nulls : (n i : ℕ) → get_or (nulls n) i 0 ≡ 0
get_or-only_nulls zero i = refl
get_or-only_nulls (suc n) zero = refl
get_or-only_nulls (suc n) (suc i) = get_or-only_nulls n i

pub get_or-nulls : (xs : List ℕ) (n i : ℕ) → get_or (xs ++ nulls n) i 0 ≡ get_or xs i 0
get_or-nulls [] n i = get_or-only_nulls n i
get_or-nulls (x ∷ xs) n zero = refl
get_or-nulls (x ∷ xs) n (suc i) = get_or-nulls xs n i

-- zeros behind octets don't change it
pub kept_at-nulls : (order : Order) (xs : List ℕ) (n : ℕ) → kept_at order (xs ++ nulls n) ≡ kept_at order xs
kept_at-nulls order xs n =
    let at : (i : ℕ) → get_or (drop 8 (xs ++ nulls n)) i 0 ≡ get_or (drop 8 xs) i 0 =
    λ i. get_or-drop 8 (xs ++ nulls n) i 0 ∙ get_or-nulls xs n (8 + i) ∙ sym (get_or-drop 8 xs i 0) in
    number_by order (drop 8 (xs ++ nulls n)) (drop 8 xs) (at 0) (at 1) (at 2) (at 3)

-- nor do any octets make it less
pub kept_at-more : (order : Order) (xs ys : List ℕ) → kept_at order xs ≤ kept_at order (xs ++ ys)
kept_at-more order xs ys =
    let at : (i : ℕ) → get_or (drop 8 xs) i 0 ≤ get_or (drop 8 (xs ++ ys)) i 0 =
    λ i. omega (arith, get_or-drop 8 (xs ++ ys) i 0, get_or-more xs ys (8 + i), get_or-drop 8 xs i 0) in
    number_least order (drop 8 xs) (drop 8 (xs ++ ys)) (at 0) (at 1) (at 2) (at 3)
