-- What is read spells the value: no other octets are read as it, but for what is behind them.
use Rattle.std.proofs.Common.{◌≡◌, ℕ, ◌+◌, ◌*◌, ◌/◌, ◌%◌, ◌<◌, ◌≤◌, true, List, [], ◌∷◌, ◌++◌, length, take, drop, slice_index, refl, sym, ap, ◌∙◌, arith, add-one, append_assoc, length-drop, take-append-drop}
use Rattle.std.proofs.lemmas.Bool.{eqb-true, leb-true, and_parts}
use Rattle.std.proofs.lemmas.List.{drop-drop, get_or-drop}
use Rattle.std.proofs.Math.Seq.{drop-cons}
use Rattle.byteorder.specs.Endian.{big_number, big_bytes}
use Rattle.efi_base.specs.Checksum.{AreOctets}
use Rattle.wire_link.specs.Ether.{frame_text, frame_in}
use Rattle.wire_link.specs.Arp.{arp_text, arp_in, has_arp}

octets-drop : (n : ℕ) (bytes : List ℕ) → AreOctets bytes → AreOctets (drop n bytes)
octets-drop n bytes h i = rw (get_or-drop n bytes i 0) (h (n + i))

-- the first two octets are those of their number
two-first : (bytes : List ℕ) → 2 ≤ length bytes → AreOctets bytes → bytes ≡ big_bytes 2 (big_number 2 bytes) ++ drop 2 bytes
two-first [] l h = absurd (omega arith)
two-first (a ∷ []) l h = absurd (omega arith)
two-first (a ∷ b ∷ bytes) l h =
    let x : a < 256 = h 0 in
    let y : b < 256 = h 1 in
    let high : a ≡ (a * 256 + (b * 1 + 0)) / 256 % 256 = omega arith in
    let low : b ≡ (a * 256 + (b * 1 + 0)) % 256 = omega arith in
    rw (← high, ← low) refl

-- the first four octets are those of their number
four-first : (bytes : List ℕ) → 4 ≤ length bytes → AreOctets bytes → bytes ≡ big_bytes 4 (big_number 4 bytes) ++ drop 4 bytes
four-first [] l h = absurd (omega arith)
four-first (a ∷ []) l h = absurd (omega arith)
four-first (a ∷ b ∷ []) l h = absurd (omega arith)
four-first (a ∷ b ∷ c ∷ []) l h = absurd (omega arith)
four-first (a ∷ b ∷ c ∷ d ∷ bytes) l h =
    let x : a < 256 = h 0 in
    let y : b < 256 = h 1 in
    let z : c < 256 = h 2 in
    let w : d < 256 = h 3 in
    let first : a ≡ (a * 16777216 + (b * 65536 + (c * 256 + (d * 1 + 0)))) / 16777216 % 256 = omega arith in
    let second : b ≡ (a * 16777216 + (b * 65536 + (c * 256 + (d * 1 + 0)))) / 65536 % 256 = omega arith in
    let third : c ≡ (a * 16777216 + (b * 65536 + (c * 256 + (d * 1 + 0)))) / 256 % 256 = omega arith in
    let fourth : d ≡ (a * 16777216 + (b * 65536 + (c * 256 + (d * 1 + 0)))) % 256 = omega arith in
    rw (← first, ← second, ← third, ← fourth) refl

-- the same from a place on
two-at : (n : ℕ) (bytes : List ℕ) → n + 2 ≤ length bytes → AreOctets bytes → drop n bytes ≡ big_bytes 2 (big_number 2 (drop n bytes)) ++ drop (n + 2) bytes
two-at n bytes l h =
    two-first (drop n bytes) (omega (arith, length-drop n bytes)) (octets-drop n bytes h) ∙ ap (λ rest. big_bytes 2 (big_number 2 (drop n bytes)) ++ rest) (drop-drop 2 n bytes)

four-at : (n : ℕ) (bytes : List ℕ) → n + 4 ≤ length bytes → AreOctets bytes → drop n bytes ≡ big_bytes 4 (big_number 4 (drop n bytes)) ++ drop (n + 4) bytes
four-at n bytes l h =
    four-first (drop n bytes) (omega (arith, length-drop n bytes)) (octets-drop n bytes h) ∙ ap (λ rest. big_bytes 4 (big_number 4 (drop n bytes)) ++ rest) (drop-drop 4 n bytes)

six-at : (n : ℕ) (bytes : List ℕ) → drop n bytes ≡ take 6 (drop n bytes) ++ drop (n + 6) bytes
six-at n bytes = sym (take-append-drop 6 (drop n bytes)) ∙ ap (λ rest. take 6 (drop n bytes) ++ rest) (drop-drop 6 n bytes)

one-at : (n : ℕ) (bytes : List ℕ) → n < length bytes → drop n bytes ≡ slice_index bytes n ∷ drop (n + 1) bytes
one-at n bytes l = rw add-one (drop-cons bytes n 0 l)

pub frame-spelled : (bytes : List ℕ) → 14 ≤ length bytes → AreOctets bytes → bytes ≡ frame_text (frame_in bytes)
frame-spelled bytes l h =
    six-at 0 bytes ∙ ap (λ rest. take 6 bytes ++ rest) (six-at 6 bytes ∙ ap (λ rest. take 6 (drop 6 bytes) ++ rest) (two-at 12 bytes l h))

arp-whole : (bytes : List ℕ) → 28 ≤ length bytes → AreOctets bytes → big_number 2 bytes ≡ 1 → big_number 2 (drop 2 bytes) ≡ 2048
    → slice_index bytes 4 ≡ 6 → slice_index bytes 5 ≡ 4 → bytes ≡ arp_text (arp_in bytes) ++ drop 28 bytes
arp-whole bytes l h hardware protocol six four =
    let target = six-at 18 bytes ∙ ap (λ rest. take 6 (drop 18 bytes) ++ rest) (four-at 24 bytes l h) in
    let sender = six-at 8 bytes ∙ ap (λ rest. take 6 (drop 8 bytes) ++ rest) (four-at 14 bytes (omega arith) h ∙ ap (λ rest. big_bytes 4 (big_number 4 (drop 14 bytes)) ++ rest) target) in
    let op = two-at 6 bytes (omega arith) h ∙ ap (λ rest. big_bytes 2 (big_number 2 (drop 6 bytes)) ++ rest) sender in
    let lengths = one-at 4 bytes (omega arith) ∙ ap (λ rest. slice_index bytes 4 ∷ rest) (one-at 5 bytes (omega arith) ∙ ap (λ rest. slice_index bytes 5 ∷ rest) op) in
    let all = two-at 0 bytes (omega arith) h ∙ ap (λ rest. big_bytes 2 (big_number 2 bytes) ++ rest) (two-at 2 bytes (omega arith) h ∙ ap (λ rest. big_bytes 2 (big_number 2 (drop 2 bytes)) ++ rest) lengths) in
    simp append_assoc (rw (hardware, protocol, six, four) at all)

-- what stands where an ARP packet is read
pub arp-spelled : (bytes : List ℕ) → has_arp bytes ≡ true → AreOctets bytes → bytes ≡ arp_text (arp_in bytes) ++ drop 28 bytes
arp-spelled bytes there h =
    let a = and_parts _ _ there in
    let b = and_parts _ _ a.1 in
    let c = and_parts _ _ b.1 in
    let d = and_parts _ _ c.1 in
    let e = and_parts _ _ d.1 in
    arp-whole bytes (leb-true _ _ a.0) h (eqb-true _ _ b.0) (eqb-true _ _ c.0) (eqb-true _ _ d.0) (eqb-true _ _ e.0)
