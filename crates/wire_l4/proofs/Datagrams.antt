-- A datagram that was written is read again.
use Rattle.std.proofs.Common.{◌≡◌, ℕ, zero, suc, ◌+◌, ◌≤◌, ◌&&◌, ◌||◌, Bool, true, false, nat_le, List, ◌++◌, length, take, drop, slice_range, Some, None, if◌then◌else◌, refl, ap, ◌∙◌, arith}
use Rattle.std.proofs.lemmas.Bool.Decides.{nat_tests}
use Rattle.std.proofs.lemmas.List.{take_all}
use Rattle.byteorder.specs.Endian.{big_number, big_bytes}
use Rattle.byteorder.specs.Numbers.{big_number-reads_back}
use Rattle.efi_base.specs.Checksum.{AreOctets}
use Rattle.efi_base.proofs.Sums.{octets-append}
use Rattle.wire_l4.proofs.Filled.{octets-two, message-filled, message-ones}
use Rattle.wire_l4.specs.Datagram.{Datagram, IsDatagram, datagram_of, datagram_in, datagram_length, has_datagram, has_no_sum, has_right_udp_sum, udp_header, datagram_text, sent_sum}
use Rattle.wire_l4.specs.Pseudo.{message_sum}

-- the three tests of a reader
both-true : {A : Type 0} (first none right : Bool) (x : A) → first ≡ true → right ≡ true → (if first && (none || right) then Some x else None) ≡ Some x
both-true true true right x f r = refl
both-true true false true x f r = refl
both-true true false false x f r = absurd (cc)
both-true false none right x f r = absurd (cc)

fits : (len n : ℕ) → 8 ≤ len → len ≤ n → (nat_le 8 n && (nat_le 8 len && nat_le len n)) ≡ true
fits len n low high = grind (arith, nat_tests)

udp-length : (d : Datagram) (sum : ℕ) → length d.payload ≤ 65507 → datagram_length (udp_header d sum ++ d.payload) ≡ 8 + length d.payload
udp-length d sum h = big_number-reads_back 2 (8 + length d.payload) (big_bytes 2 sum ++ d.payload) (omega arith)

udp-parts : (d : Datagram) (sum : ℕ) → IsDatagram d → datagram_in (udp_header d sum ++ d.payload) ≡ d
udp-parts d sum h =
    let len = udp-length d sum h.bound in
    let first : big_number 2 (udp_header d sum ++ d.payload) ≡ d.sport = big_number-reads_back 2 d.sport (big_bytes 2 d.dport ++ (big_bytes 2 (8 + length d.payload) ++ big_bytes 2 sum) ++ d.payload) h.from in
    let second : big_number 2 (drop 2 (udp_header d sum ++ d.payload)) ≡ d.dport = big_number-reads_back 2 d.dport (big_bytes 2 (8 + length d.payload) ++ big_bytes 2 sum ++ d.payload) h.to in
    let rest : slice_range (udp_header d sum ++ d.payload) 8 (8 + length d.payload) ≡ d.payload = take_all _ _ (omega arith) in
    rw (len, first, second, rest) refl

read-again : (src dest : ℕ) (d : Datagram) (sum : ℕ) → IsDatagram d
    → message_sum src dest 17 (udp_header d sum ++ d.payload) ≡ 0 → datagram_of src dest (udp_header d sum ++ d.payload) ≡ Some d
unfolding datagram_of
read-again src dest d sum h m =
    let text = udp_header d sum ++ d.payload in
    let len = udp-length d sum h.bound in
    let size : length text ≡ 8 + length d.payload = omega arith in
    let whole : take (datagram_length text) text ≡ text = take_all _ _ (omega (arith, len, size)) in
    let right : has_right_udp_sum src dest text ≡ true = rw (whole, m) refl in
    both-true (has_datagram text) (has_no_sum text) (has_right_udp_sum src dest text) (datagram_in text) (fits (datagram_length text) (length text) (omega (arith, len)) (omega (arith, len, size))) right
    ∙ ap (λ x. Some x) (udp-parts d sum h)

-- all ones in place of 0
either-sum : (right : ℕ → ℕ) (sum : ℕ) → right sum ≡ 0 → (sum ≡ 0 → right 65535 ≡ 0) → right (sent_sum sum) ≡ 0
either-sum right zero r ones = ones refl
either-sum right (suc sum) r ones = let e : sent_sum (suc sum) ≡ suc sum = grind (arith, nat_tests) in rw e r

-- what stands in front of the checksum
abbrev head : Datagram → List ℕ
head d = big_bytes 2 d.sport ++ (big_bytes 2 d.dport ++ big_bytes 2 (8 + length d.payload))

octets-head : (d : Datagram) → AreOctets (head d)
octets-head d =
    octets-append (big_bytes 2 d.sport) (big_bytes 2 d.dport ++ big_bytes 2 (8 + length d.payload)) (octets-two d.sport)
    (octets-append (big_bytes 2 d.dport) (big_bytes 2 (8 + length d.payload)) (octets-two d.dport) (octets-two (8 + length d.payload)))

sent-right : (src dest : ℕ) (d : Datagram) → AreOctets d.payload
    → message_sum src dest 17 (udp_header d (sent_sum (message_sum src dest 17 (udp_header d 0 ++ d.payload))) ++ d.payload) ≡ 0
sent-right src dest d o =
    either-sum (λ x. message_sum src dest 17 (udp_header d x ++ d.payload)) (message_sum src dest 17 (udp_header d 0 ++ d.payload))
    (message-filled src dest 17 (head d) d.payload (omega arith) (octets-head d) o refl)
    (message-ones src dest 17 (head d) d.payload (omega arith) (octets-head d) o refl)

pub datagram-again : (src dest : ℕ) (d : Datagram) → IsDatagram d → datagram_of src dest (datagram_text src dest d) ≡ Some d
unfolding datagram_text
datagram-again src dest d h =
    read-again src dest d (sent_sum (message_sum src dest 17 (udp_header d 0 ++ d.payload))) h (sent-right src dest d h.octets)
