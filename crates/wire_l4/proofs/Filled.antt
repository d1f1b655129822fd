-- A message in which the octets of the checksum were 0 and were filled in sums to all ones with its pseudo header.
use Rattle.std.proofs.Common.{◌≡◌, ℕ, zero, suc, ◌+◌, ◌/◌, ◌%◌, ◌<◌, List, [], ◌∷◌, ◌++◌, length, sym, ap, ◌∙◌, arith, length-append, append_assoc}
use Rattle.byteorder.specs.Endian.{big_bytes}
use Rattle.efi_base.specs.Checksum.{checksum_of, AreOctets}
use Rattle.efi_base.proofs.Sums.{octets-append}
use Rattle.efi_base.proofs.Filling.{filled-in, filled-ones}
use Rattle.wire_l4.specs.Pseudo.{pseudo_header, message_sum}

pub octets-cons : (x : ℕ) (xs : List ℕ) → x < 256 → AreOctets xs → AreOctets (x ∷ xs)
octets-cons x xs h o zero = h
octets-cons x xs h o (suc i) = o i

pub two-octets : (x y : ℕ) → x < 256 → y < 256 → AreOctets (x ∷ y ∷ [])
two-octets x y h k = octets-cons x (y ∷ []) h (octets-cons y [] k (λ i. omega arith))

pub octets-two : (x : ℕ) → AreOctets (big_bytes 2 x)
octets-two x = two-octets (x / 256 % 256) (x % 256) (omega arith) (omega arith)

pub octets-four : (x : ℕ) → AreOctets (big_bytes 4 x)
octets-four x =
    octets-append (x / 16777216 % 256 ∷ x / 65536 % 256 ∷ []) (big_bytes 2 x)
    (two-octets (x / 16777216 % 256) (x / 65536 % 256) (omega arith) (omega arith)) (octets-two x)

octets-pseudo : (src dest proto len : ℕ) → proto < 256 → AreOctets (pseudo_header src dest proto len)
octets-pseudo src dest proto len h =
    octets-append (big_bytes 4 src) (big_bytes 4 dest ++ (0 ∷ proto ∷ big_bytes 2 len)) (octets-four src)
    (octets-append (big_bytes 4 dest) (0 ∷ proto ∷ big_bytes 2 len) (octets-four dest)
    (octets-append (0 ∷ proto ∷ []) (big_bytes 2 len) (two-octets 0 proto (omega arith) h) (octets-two len)))

-- the pseudo header and what stands in front of the checksum
front-of : ℕ → ℕ → ℕ → List ℕ → List ℕ → List ℕ
front-of src dest proto head rest = pseudo_header src dest proto (length head + (2 + length rest)) ++ head

sum-at : (src dest proto : ℕ) (head rest : List ℕ) (x : ℕ)
    → message_sum src dest proto (head ++ (big_bytes 2 x ++ rest)) ≡ checksum_of (front-of src dest proto head rest ++ (big_bytes 2 x ++ rest))
unfolding front-of
sum-at src dest proto head rest x =
    let size : length (head ++ (big_bytes 2 x ++ rest)) ≡ length head + (2 + length rest) = omega (arith, length-append head (big_bytes 2 x ++ rest)) in
    rw size (ap checksum_of (sym (append_assoc (pseudo_header src dest proto (length head + (2 + length rest))) head (big_bytes 2 x ++ rest))))

octets-front : (src dest proto : ℕ) (head rest : List ℕ) → proto < 256 → AreOctets head → AreOctets (front-of src dest proto head rest)
unfolding front-of
octets-front src dest proto head rest p h = octets-append (pseudo_header src dest proto (length head + (2 + length rest))) head (octets-pseudo src dest proto (length head + (2 + length rest)) p) h

even-front : (src dest proto : ℕ) (head rest : List ℕ) → length head % 2 ≡ 0 → length (front-of src dest proto head rest) % 2 ≡ 0
unfolding front-of
even-front src dest proto head rest e = omega (arith, e)

pub message-filled : (src dest proto : ℕ) (head rest : List ℕ) → proto < 256 → AreOctets head → AreOctets rest → length head % 2 ≡ 0
    → message_sum src dest proto (head ++ (big_bytes 2 (message_sum src dest proto (head ++ (big_bytes 2 0 ++ rest))) ++ rest)) ≡ 0
message-filled src dest proto head rest p h r e =
    let front = front-of src dest proto head rest in
    sum-at src dest proto head rest (message_sum src dest proto (head ++ (big_bytes 2 0 ++ rest)))
    ∙ ap (λ x. checksum_of (front ++ (big_bytes 2 x ++ rest))) (sum-at src dest proto head rest 0)
    ∙ filled-in front rest (octets-front src dest proto head rest p h) r (even-front src dest proto head rest e)

pub message-ones : (src dest proto : ℕ) (head rest : List ℕ) → proto < 256 → AreOctets head → AreOctets rest → length head % 2 ≡ 0
    → message_sum src dest proto (head ++ (big_bytes 2 0 ++ rest)) ≡ 0 → message_sum src dest proto (head ++ (big_bytes 2 65535 ++ rest)) ≡ 0
message-ones src dest proto head rest p h r e s =
    let front = front-of src dest proto head rest in
    sum-at src dest proto head rest 65535
    ∙ filled-ones front rest (octets-front src dest proto head rest p h) r (even-front src dest proto head rest e) (sym (sum-at src dest proto head rest 0) ∙ s)
