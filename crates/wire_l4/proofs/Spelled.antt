-- A segment that was written is read again.
use Rattle.std.proofs.Common.{◌≡◌, ℕ, ◌+◌, ◌-◌, ◌*◌, ◌/◌, ◌%◌, ◌^◌, ◌<◌, ◌≤◌, ◌==◌, ◌&&◌, Bool, true, false, nat_le, nat_lt, List, [], ◌∷◌, ◌++◌, length, drop, Option, Some, None, is_some, unwrap_or, IfSome, if◌then◌else◌, refl, ap, ◌∙◌, arith, length-append}
use Rattle.std.proofs.Math.Seq.{drop-append_seam}
use Rattle.std.proofs.lemmas.Bool.Decides.{nat_tests}
use Rattle.std.proofs.lemmas.List.{take_at}
use Rattle.byteorder.specs.Endian.{big_number, big_bytes}
use Rattle.byteorder.specs.Numbers.{big_number-reads_back}
use Rattle.efi_base.specs.Checksum.{AreOctets}
use Rattle.efi_base.proofs.Sums.{octets-append}
use Rattle.wire_l4.specs.Options.{items_of, mss_in, shift_in}
use Rattle.wire_l4.specs.Pseudo.{message_sum}
use Rattle.wire_l4.specs.Segment.{Segment, segment_of, segment_in, has_segment, has_right_sum, options_of, data_offset}
use Rattle.wire_l4.specs.Spelling.{IsSegment, options_text, mss_option, shift_option, tcp_front, tcp_header, segment_text}
use Rattle.wire_l4.proofs.Filled.{two-octets, octets-two, octets-four, message-filled}

-- options fill words of four octets
options-size : (mss shift : Option ℕ) → (length (options_text mss shift) ≤ 8) × (length (options_text mss shift) % 4 ≡ 0)
options-size None None = (omega arith, refl)
options-size None (Some shift) = (omega arith, refl)
options-size (Some mss) None = (omega arith, refl)
options-size (Some mss) (Some shift) = (omega arith, refl)

-- the options that were written are found
options-again : (mss shift : Option ℕ) → IfSome mss (λ mss. mss < 2 ^ 16)
    → (is_some (items_of (options_text mss shift)) ≡ true) × (mss_in (unwrap_or (items_of (options_text mss shift)) []) ≡ mss)
    × (shift_in (unwrap_or (items_of (options_text mss shift)) []) ≡ shift)
options-again None None h = (refl, refl, refl)
options-again None (Some shift) h = (refl, refl, ap (λ n. Some n) (omega arith))
options-again (Some mss) None h = (refl, ap (λ n. Some n) (big_number-reads_back 2 mss [] h), refl)
options-again (Some mss) (Some shift) h = (refl, ap (λ n. Some n) (big_number-reads_back 2 mss [] h), ap (λ n. Some n) (omega arith))

-- they are octets
octets-mss : (mss : Option ℕ) → AreOctets (mss_option mss)
octets-mss None i = omega arith
octets-mss (Some mss) i = octets-append (2 ∷ 4 ∷ []) (big_bytes 2 mss) (two-octets 2 4 (omega arith) (omega arith)) (octets-two mss) i

octets-shift : (shift : Option ℕ) → IfSome shift (λ shift. shift < 2 ^ 8) → AreOctets (shift_option shift)
octets-shift None h i = omega arith
octets-shift (Some shift) h i = octets-append (1 ∷ 3 ∷ []) (3 ∷ shift ∷ []) (two-octets 1 3 (omega arith) (omega arith)) (two-octets 3 shift (omega arith) h) i

-- the octets of the header whose length and flags are these, in front of the checksum
abbrev head : Segment → ℕ → List ℕ
head s len =
    big_bytes 2 s.sport ++ (big_bytes 2 s.dport ++ (big_bytes 4 s.seq ++ (big_bytes 4 s.ack ++ (len / 4 * 16 ∷ s.flags ∷ big_bytes 2 s.window))))

octets-head : (s : Segment) (len : ℕ) → s.flags < 2 ^ 8 → len ≤ 28 → AreOctets (head s len)
octets-head s len f l =
    let last = octets-append (len / 4 * 16 ∷ s.flags ∷ []) (big_bytes 2 s.window) (two-octets (len / 4 * 16) s.flags (omega arith) f) (octets-two s.window) in
    let numbers =
    octets-append (big_bytes 4 s.seq) (big_bytes 4 s.ack ++ (len / 4 * 16 ∷ s.flags ∷ big_bytes 2 s.window)) (octets-four s.seq)
    (octets-append (big_bytes 4 s.ack) (len / 4 * 16 ∷ s.flags ∷ big_bytes 2 s.window) (octets-four s.ack) last) in
    octets-append (big_bytes 2 s.sport) (big_bytes 2 s.dport ++ (big_bytes 4 s.seq ++ (big_bytes 4 s.ack ++ (len / 4 * 16 ∷ s.flags ∷ big_bytes 2 s.window)))) (octets-two s.sport)
    (octets-append (big_bytes 2 s.dport) (big_bytes 4 s.seq ++ (big_bytes 4 s.ack ++ (len / 4 * 16 ∷ s.flags ∷ big_bytes 2 s.window))) (octets-two s.dport) numbers)

-- a segment with this checksum
abbrev options : Segment → List ℕ
options s = options_text s.mss s.shift

abbrev front : Segment → ℕ → List ℕ
front s sum = tcp_front s (20 + length (options s)) sum

abbrev text : Segment → ℕ → List ℕ
text s sum = (front s sum ++ options s) ++ s.payload

size : (s : Segment) (sum : ℕ) → length (text s sum) ≡ 20 + (length (options s) + length s.payload)
size s sum = omega (arith, length-append (options s) s.payload)

offset : (s : Segment) (sum : ℕ) → data_offset (text s sum) ≡ 20 + length (options s)
offset s sum = let o = options-size s.mss s.shift in omega (arith, o.1)

found : (s : Segment) (sum : ℕ) → options_of (text s sum) ≡ items_of (options s)
found s sum =
    rw (offset s sum)
    (ap (λ (xs : List ℕ). items_of xs) (take_at (options s) s.payload (20 + length (options s) - 20) (omega arith)))

behind : (s : Segment) (sum : ℕ) → drop (data_offset (text s sum)) (text s sum) ≡ s.payload
behind s sum =
    let e : data_offset (text s sum) ≡ length (front s sum ++ options s) = omega (arith, offset s sum) in
    ap (λ n. drop n (text s sum)) e ∙ drop-append_seam (front s sum ++ options s) s.payload

fits : (len off : ℕ) (some : Bool) → 20 ≤ off → off ≤ len → len < 2 ^ 16 → some ≡ true
    → (nat_le 20 len && (nat_lt len (2 ^ 16) && (nat_le 20 off && (nat_le off len && some)))) ≡ true
fits len off false low high bound h = absurd (cc)
fits len off true low high bound h = grind (arith, nat_tests)

has : (s : Segment) (sum : ℕ) → IsSegment s → has_segment (text s sum) ≡ true
has s sum h =
    let o = options-size s.mss s.shift in
    let known = options-again s.mss s.shift h.largest in
    let some : is_some (options_of (text s sum)) ≡ true = ap (λ items. is_some items) (found s sum) ∙ known.0 in
    fits (length (text s sum)) (data_offset (text s sum)) (is_some (options_of (text s sum)))
    (omega (arith, offset s sum)) (omega (arith, offset s sum, size s sum)) (omega (arith, size s sum, o.0, h.bound)) some

parts : (s : Segment) (sum : ℕ) → IsSegment s → segment_in (text s sum) ≡ s
parts s sum h =
    let known = options-again s.mss s.shift h.largest in
    let sport : big_number 2 (text s sum) ≡ s.sport = big_number-reads_back 2 s.sport (drop 2 (text s sum)) h.from in
    let dport : big_number 2 (drop 2 (text s sum)) ≡ s.dport = big_number-reads_back 2 s.dport (drop 4 (text s sum)) h.to in
    let seq : big_number 4 (drop 4 (text s sum)) ≡ s.seq = big_number-reads_back 4 s.seq (drop 8 (text s sum)) h.place in
    let ack : big_number 4 (drop 8 (text s sum)) ≡ s.ack = big_number-reads_back 4 s.ack (drop 12 (text s sum)) h.next in
    let window : big_number 2 (drop 14 (text s sum)) ≡ s.window = big_number-reads_back 2 s.window (drop 16 (text s sum)) h.room in
    rw (sport, dport, seq, ack, window, behind s sum, found s sum, known.1, known.2) refl

right : (src dest : ℕ) (s : Segment) → IsSegment s → message_sum src dest 6 (text s (message_sum src dest 6 (text s 0))) ≡ 0
right src dest s h =
    let o = options-size s.mss s.shift in
    let rest = big_bytes 2 0 ++ (options s ++ s.payload) in
    message-filled src dest 6 (head s (20 + length (options s))) rest (omega arith) (octets-head s (20 + length (options s)) h.marks (omega (arith, o.0)))
    (octets-append (big_bytes 2 0) (options s ++ s.payload) (octets-two 0)
    (octets-append (options s) s.payload (octets-append (mss_option s.mss) (shift_option s.shift) (octets-mss s.mss) (octets-shift s.shift h.scale)) h.octets))
    refl

both-true : {A : Type 0} (there right : Bool) (x : A) → there ≡ true → right ≡ true → (if there && right then Some x else None) ≡ Some x
both-true true true x t r = refl
both-true true false x t r = absurd (cc)
both-true false right x t r = absurd (cc)

pub segment-again : (src dest : ℕ) (s : Segment) → IsSegment s → segment_of src dest (segment_text src dest s) ≡ Some s
unfolding segment_of segment_text tcp_header
segment-again src dest s h =
    let sum = message_sum src dest 6 (text s 0) in
    both-true (has_segment (text s sum)) (has_right_sum src dest (text s sum)) (segment_in (text s sum)) (has s sum h) (ap (λ n. n == 0) (right src dest s h))
    ∙ ap (λ s. Some s) (parts s sum h)
