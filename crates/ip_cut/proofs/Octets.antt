-- The packets' octets at their places are those of the datagram, and their end is its end.
use Rattle.std.proofs.Common.{◌≡◌, refl, ◌∙◌, ap, arith, ℕ, zero, suc, ◌+◌, ◌-◌, ◌*◌, ◌≤◌, ◌<◌, Bool, true, false, cond, nat_le, List, [], ◌∷◌, length, take, drop, slice_get, Option, Some, None}
use Rattle.std.proofs.lemmas.Bool.Decides.{nat_tests}
use Rattle.std.proofs.lemmas.List.{length-drop}
use Rattle.std.specs.Option.{option_and_then}
use Rattle.wire_ip4.specs.Packet.{Packet}
use Rattle.ip_core.specs.Datagrams.{first_there, byte_in, byte_at, end_of, cons_there, bytes_below, whole_of}
use Rattle.ip_cut.specs.Cutting.{Sending, packet_with, cut_from}

first-none : (o : Option ℕ) → first_there o None ≡ o
first-none None = refl
first-none (Some b) = refl

-- the octet at a place, where octets stand from another place on
abbrev octet_at : ℕ → List ℕ → ℕ → Option ℕ
octet_at place bytes i = cond (nat_le place i) (slice_get bytes (i - place)) None

taken : {X : Type 0} (most : ℕ) (xs : List X) (j : ℕ) → j < most → slice_get (take most xs) j ≡ slice_get xs j
taken zero xs j h = absurd (omega (arith, h))
taken (suc most) [] j h = refl
taken (suc most) (x ∷ xs) zero h = refl
taken (suc most) (x ∷ xs) (suc j) h = taken most xs j (omega (arith, h))

not-taken : {X : Type 0} (most : ℕ) (xs : List X) (j : ℕ) → most ≤ j → slice_get (take most xs) j ≡ None
not-taken zero xs j h = refl
not-taken (suc most) [] j h = refl
not-taken (suc most) (x ∷ xs) zero h = absurd (omega (arith, h))
not-taken (suc most) (x ∷ xs) (suc j) h = not-taken most xs j (omega (arith, h))

dropped : {X : Type 0} (most : ℕ) (xs : List X) (j : ℕ) → most ≤ j → slice_get (drop most xs) (j - most) ≡ slice_get xs j
dropped zero xs j h = let e : j - 0 ≡ j = omega arith in ap (slice_get xs) e
dropped (suc most) [] j h = refl
dropped (suc most) (x ∷ xs) zero h = absurd (omega (arith, h))
dropped (suc most) (x ∷ xs) (suc j) h =
    let e : suc j - suc most ≡ j - most = omega arith in
    ap (slice_get (drop most xs)) e ∙ dropped most xs j (omega (arith, h))

-- a part and the rest
cut-cases : (most place i : ℕ) (bytes : List ℕ) (a b : Bool) → nat_le place i ≡ a → nat_le (place + most) i ≡ b
    → first_there (octet_at place (take most bytes) i) (octet_at (place + most) (drop most bytes) i) ≡ octet_at place bytes i
cut-cases most place i bytes false true e f = absurd (grind (arith, nat_tests))
cut-cases most place i bytes false false e f = rw (e, f) refl
cut-cases most place i bytes true false e f =
    let near : i - place < most = grind (arith, nat_tests) in
    rw (e, f) (first-none (slice_get (take most bytes) (i - place)) ∙ taken most bytes (i - place) near)
cut-cases most place i bytes true true e f =
    let far : most ≤ i - place = grind (arith, nat_tests) in
    let rest : i - (place + most) ≡ i - place - most = omega arith in
    rw (e, f) (
    ap (λ o. first_there o (slice_get (drop most bytes) (i - (place + most)))) (not-taken most bytes (i - place) far)
    ∙ ap (slice_get (drop most bytes)) rest
    ∙ dropped most bytes (i - place) far
    )

octets : (most : ℕ) (d : Sending) (place cuts : ℕ) (bytes : List ℕ) (i : ℕ) → byte_at (cut_from most d place cuts bytes) i ≡ octet_at place bytes i
octets most d place zero bytes i = first-none (byte_in (packet_with d false place bytes) i)
octets most d place (suc cuts) bytes i =
    ap (first_there (byte_in (packet_with d true place (take most bytes)) i)) (octets most d (place + most) cuts (drop most bytes) i)
    ∙ cut-cases most place i bytes (nat_le place i) (nat_le (place + most) i) refl refl

pub one-more : (i most : ℕ) → suc i * most ≡ most + i * most
one-more i most = omega arith

end : (most : ℕ) (d : Sending) (place cuts : ℕ) (bytes : List ℕ) → cuts * most ≤ length bytes → end_of (cut_from most d place cuts bytes) ≡ Some (place + length bytes)
end most d place zero bytes h = refl
end most d place (suc cuts) bytes h =
    let less : cuts * most ≤ length (drop most bytes) = omega (arith, h, length-drop most bytes, one-more cuts most) in
    let at : place + most + length (drop most bytes) ≡ place + length bytes = omega (arith, h, length-drop most bytes, one-more cuts most) in
    end most d (place + most) cuts (drop most bytes) less ∙ ap Some at

below-same : (end : ℕ) (g h : ℕ → Option ℕ) → ((i : ℕ) → g i ≡ h i) → bytes_below end g ≡ bytes_below end h
below-same zero g h e = refl
below-same (suc end) g h e =
    ap (λ o. cons_there o (bytes_below end (λ i. g (suc i)))) (e 0)
    ∙ ap (cons_there (h 0)) (below-same end (λ i. g (suc i)) (λ i. h (suc i)) (λ i. e (suc i)))

below-all : (bytes : List ℕ) → bytes_below (length bytes) (slice_get bytes) ≡ Some bytes
below-all [] = refl
below-all (b ∷ bytes) = ap (cons_there (Some b)) (below-all bytes)

from-start : (bytes : List ℕ) (i : ℕ) → octet_at 0 bytes i ≡ slice_get bytes i
from-start bytes i =
    let t : nat_le 0 i ≡ true = grind (arith, nat_tests) in
    let e : i - 0 ≡ i = omega arith in
    ap (λ c. cond c (slice_get bytes (i - 0)) None) t ∙ ap (slice_get bytes) e

-- the fragments together are whole, with the datagram's octets
pub whole : (most : ℕ) (d : Sending) (cuts : ℕ) (bytes : List ℕ) → cuts * most ≤ length bytes → whole_of (cut_from most d 0 cuts bytes) ≡ Some bytes
whole most d cuts bytes h =
    let ps : List Packet = cut_from most d 0 cuts bytes in
    let at : 0 + length bytes ≡ length bytes = omega arith in
    ap (option_and_then (λ n. bytes_below n (byte_at ps))) (end most d 0 cuts bytes h ∙ ap Some at)
    ∙ below-same (length bytes) (byte_at ps) (slice_get bytes) (λ i. octets most d 0 cuts bytes i ∙ from-start bytes i)
    ∙ below-all bytes
