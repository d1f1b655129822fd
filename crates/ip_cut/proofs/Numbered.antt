-- The packet of a number among those that a datagram is sent as.
use Rattle.std.proofs.Common.{◌≡◌, refl, sym, ◌∙◌, ap, arith, ℕ, zero, suc, ◌+◌, ◌*◌, ◌≤◌, Bool, true, false, nat_lt, List, [], ◌∷◌, length, take, drop, slice_get, Some}
use Rattle.std.proofs.lemmas.Bool.Decides.{nat_tests}
use Rattle.std.proofs.lemmas.List.{take_all, length-drop}
use Rattle.std.proofs.Math.Seq.{drop-nil}
use Rattle.ip_cut.specs.Cutting.{Sending, cuts_of, packet_with, cut_from, packets_of}

drop-more : {X : Type 0} (i most : ℕ) (xs : List X) → drop i (drop most xs) ≡ drop (most + i) xs
drop-more i zero xs = let e : zero + i ≡ i = omega arith in ap (λ n. drop n xs) (sym e)
drop-more i (suc most) [] = drop-nil i ∙ sym (drop-nil (suc most + i))
drop-more i (suc most) (x ∷ xs) = drop-more i most xs ∙ (let e : suc most + i ≡ suc (most + i) = omega arith in ap (λ n. drop n (x ∷ xs)) (sym e))

same-packet : (d : Sending) (m n : Bool) (p q : ℕ) (bytes octets : List ℕ) → m ≡ n → p ≡ q → bytes ≡ octets → packet_with d m p bytes ≡ packet_with d n q octets
same-packet d m n p q bytes octets e f g = cc

one-more : (i most : ℕ) → suc i * most ≡ most + i * most
one-more i most = omega arith

none : (most : ℕ) → 0 * most ≡ 0
none most = omega arith

pub numbered : (most : ℕ) (d : Sending) (place i cuts : ℕ) (bytes : List ℕ) → i ≤ cuts → length bytes ≤ cuts * most + most
    → slice_get (cut_from most d place cuts bytes) i ≡ Some (packet_with d (nat_lt i cuts) (place + i * most) (take most (drop (i * most) bytes)))
numbered most d place zero zero bytes h l =
    ap
    Some
    (same-packet d false (nat_lt 0 0) place (place + 0 * most) bytes (take most (drop (0 * most) bytes)) refl (omega (arith, none most))
    (sym (ap (λ n. take most (drop n bytes)) (none most) ∙ take_all most bytes (omega (arith, l)))))
numbered most d place (suc i) zero bytes h l = absurd (omega (arith, h))
numbered most d place zero (suc cuts) bytes h l =
    let more : true ≡ nat_lt 0 (suc cuts) = grind (arith, nat_tests) in
    ap
    Some
    (same-packet d true (nat_lt 0 (suc cuts)) place (place + 0 * most) (take most bytes) (take most (drop (0 * most) bytes)) more (omega (arith, none most))
    (sym (ap (λ n. take most (drop n bytes)) (none most))))
numbered most d place (suc i) (suc cuts) bytes h l =
    let room : length (drop most bytes) ≤ cuts * most + most = omega (arith, l, length-drop most bytes, one-more cuts most) in
    let more : nat_lt i cuts ≡ nat_lt (suc i) (suc cuts) = grind (arith, nat_tests) in
    let at : place + most + i * most ≡ place + suc i * most = omega (arith, one-more i most) in
    let part : take most (drop (i * most) (drop most bytes)) ≡ take most (drop (suc i * most) bytes) =
    ap (take most) (drop-more (i * most) most bytes ∙ ap (λ n. drop n bytes) (sym (one-more i most))) in
    numbered most d (place + most) i cuts (drop most bytes) (omega (arith, h)) room
    ∙ ap
    Some
    (same-packet d (nat_lt i cuts) (nat_lt (suc i) (suc cuts)) (place + most + i * most) (place + suc i * most)
    (take most (drop (i * most) (drop most bytes))) (take most (drop (suc i * most) bytes)) more at part)

pub room_for : (len : ℕ) → len ≤ cuts_of len * 1480 + 1480
room_for len = omega arith

pub packet_is : (d : Sending) (i : ℕ) (more : Bool) (place : ℕ) (bytes : List ℕ) → i ≤ cuts_of (length d.payload)
    → more ≡ nat_lt i (cuts_of (length d.payload)) → place ≡ i * 1480 → bytes ≡ take 1480 (drop (i * 1480) d.payload)
    → slice_get (packets_of d) i ≡ Some (packet_with d more place bytes)
packet_is d i more place bytes h e f g =
    numbered 1480 d 0 i (cuts_of (length d.payload)) d.payload h (room_for (length d.payload))
    ∙ ap Some (sym (same-packet d more (nat_lt i (cuts_of (length d.payload))) place (0 + i * 1480) bytes (take 1480 (drop (i * 1480) d.payload)) e (omega (arith, f)) g))

pub last_or_not : (i cuts count : ℕ) → count ≡ cuts + 1 → nat_lt (i + 1) count ≡ nat_lt i cuts
last_or_not i cuts count e = grind (arith, nat_tests)

-- as many packets as the payload is cut, and one
counted : (most : ℕ) (d : Sending) (place cuts : ℕ) (bytes : List ℕ) → length (cut_from most d place cuts bytes) ≡ cuts + 1
counted most d place zero bytes = refl
counted most d place (suc cuts) bytes = omega (arith, counted most d (place + most) cuts (drop most bytes))

pub all_counted : (d : Sending) → length (packets_of d) ≡ cuts_of (length d.payload) + 1
all_counted d = counted 1480 d 0 (cuts_of (length d.payload)) d.payload
