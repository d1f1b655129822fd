-- Records as octets.
use Rattle.std.proofs.Common.{◌≡◌, ℕ, ◌+◌, ◌-◌, ◌≤◌, List, ◌++◌, length, take, drop, refl, sym, ap, ◌∙◌, arith, append_assoc, length-append, length-drop}
use Rattle.std.proofs.lemmas.List.{drop_at, take_at, drop-drop, take-append-drop, length-take-le}
use Rattle.wire_pcap.specs.Grammar.{Order, number_text, Stored, IsStored, record_text}
use Rattle.wire_pcap.specs.Steps.{number_in, kept_at, record_at}
use Rattle.wire_pcap.proofs.Numbers.{IsOctets, octets-drop, length-number_text, number_in-text, number_in-lt, drop-number_text, text-number_in}

pub length-record_text : (order : Order) (r : Stored) → length (record_text order r) ≡ 16 + length r.frame
length-record_text order r =
    simp (length-append, length-number_text) (omega arith)

-- a record's text behind which others stand, part by part
parts : (order : Order) (a b c d : ℕ) (frame rest : List ℕ)
    → (number_text order 4 a ++ (number_text order 4 b ++ (number_text order 4 c ++ (number_text order 4 d ++ frame)))) ++ rest
    ≡ number_text order 4 a ++ (number_text order 4 b ++ (number_text order 4 c ++ (number_text order 4 d ++ (frame ++ rest))))
parts order a b c d frame rest = simp append_assoc

pub drop-4 : (order : Order) (a : ℕ) (n : ℕ) (rest : List ℕ) → drop (4 + n) (number_text order 4 a ++ rest) ≡ drop n rest
drop-4 order a n rest = sym (drop-drop n 4 (number_text order 4 a ++ rest)) ∙ ap (drop n) (drop-number_text order 4 a rest)

-- what stands at the places of a record's text
pub record RecordParts (order : Order) (r : Stored) (rest bytes : List ℕ) : Type 0 where
  pub secs : number_in order 4 bytes ≡ r.secs
  pub fraction : number_in order 4 (drop 4 bytes) ≡ r.fraction
  pub kept : number_in order 4 (drop 8 bytes) ≡ length r.frame
  pub wire_length : number_in order 4 (drop 12 bytes) ≡ r.wire_length
  pub behind : drop 16 bytes ≡ r.frame ++ rest
  pub long : length bytes ≡ 16 + length r.frame + length rest

pub parts_of : (order : Order) (r : Stored) (rest bytes : List ℕ) → IsStored r → bytes ≡ record_text order r ++ rest
    → RecordParts order r rest bytes
parts_of order r rest bytes fits text =
    let a = r.secs in
    let b = r.fraction in
    let c = length r.frame in
    let d = r.wire_length in
    let t1 = number_text order 4 d ++ (r.frame ++ rest) in
    let t2 = number_text order 4 c ++ t1 in
    let t3 = number_text order 4 b ++ t2 in
    let whole : bytes ≡ number_text order 4 a ++ t3 = text ∙ parts order a b c d r.frame rest in
    let at4 : drop 4 bytes ≡ t3 = ap (drop 4) whole ∙ drop-number_text order 4 a t3 in
    let at8 : drop 8 bytes ≡ t2 = ap (drop 8) whole ∙ drop-4 order a 4 t3 ∙ drop-number_text order 4 b t2 in
    let at12 : drop 12 bytes ≡ t1 = ap (drop 12) whole ∙ drop-4 order a 8 t3 ∙ drop-4 order b 4 t2 ∙ drop-number_text order 4 c t1 in
    let at16 : drop 16 bytes ≡ r.frame ++ rest =
    ap (drop 16) whole ∙ drop-4 order a 12 t3 ∙ drop-4 order b 8 t2 ∙ drop-4 order c 4 t1 ∙ drop-number_text order 4 d (r.frame ++ rest) in
    let few : length r.frame ≤ 262144 = fits.frame in
    record {
      secs = ap (number_in order 4) whole ∙ number_in-text order 4 a t3 fits.secs;
      fraction = ap (number_in order 4) at4 ∙ number_in-text order 4 b t2 fits.fraction;
      kept = ap (number_in order 4) at8 ∙ number_in-text order 4 c t1 (omega arith);
      wire_length = ap (number_in order 4) at12 ∙ number_in-text order 4 d (r.frame ++ rest) fits.wire_length;
      behind = at16;
      long = ap length text ∙ length-append (record_text order r) rest ∙ ap (λ (n : ℕ). n + length rest) (length-record_text order r);
    }

same_stored : (r s : Stored) → r.secs ≡ s.secs → r.fraction ≡ s.fraction → r.wire_length ≡ s.wire_length → r.frame ≡ s.frame → r ≡ s
same_stored r s a b c d =
    ap (λ (x : ℕ). record { secs = x; fraction = r.fraction; wire_length = r.wire_length; frame = r.frame }) a
    ∙ ap (λ (x : ℕ). record { secs = s.secs; fraction = x; wire_length = r.wire_length; frame = r.frame }) b
    ∙ ap (λ (x : ℕ). record { secs = s.secs; fraction = s.fraction; wire_length = x; frame = r.frame }) c
    ∙ ap (λ (x : List ℕ). record { secs = s.secs; fraction = s.fraction; wire_length = s.wire_length; frame = x }) d

-- one record stands at the front of octets, and so one rest behind it
pub record OneFront (r s : Stored) (x y : List ℕ) : Type 0 where
  pub same : r ≡ s
  pub rests : x ≡ y

pub one_front : (order : Order) (r s : Stored) (x y : List ℕ) → IsStored r → IsStored s
    → record_text order r ++ x ≡ record_text order s ++ y → OneFront r s x y
one_front order r s x y rf sf e =
    let p = parts_of order r x (record_text order r ++ x) rf refl in
    let q = parts_of order s y (record_text order r ++ x) sf e in
    let kept : length r.frame ≡ length s.frame = sym p.kept ∙ q.kept in
    let joined : r.frame ++ x ≡ s.frame ++ y = sym p.behind ∙ q.behind in
    let frames : r.frame ≡ s.frame =
    sym (take_at r.frame x (length r.frame) refl) ∙ ap (take (length r.frame)) joined ∙ take_at s.frame y (length r.frame) (sym kept) in
    let secs : r.secs ≡ s.secs = sym p.secs ∙ q.secs in
    let fraction : r.fraction ≡ s.fraction = sym p.fraction ∙ q.fraction in
    let wire : r.wire_length ≡ s.wire_length = sym p.wire_length ∙ q.wire_length in
    record {
      same = same_stored r s secs fraction wire frames;
      rests = sym (drop_at r.frame x (length r.frame) refl) ∙ ap (drop (length r.frame)) joined ∙ drop_at s.frame y (length r.frame) (sym kept);
    }

front_and_rest : (order : Order) (bytes : List ℕ) → 4 ≤ length bytes → IsOctets bytes
    → bytes ≡ number_text order 4 (number_in order 4 bytes) ++ drop 4 bytes
front_and_rest order bytes there octets =
    sym (take-append-drop 4 bytes) ∙ ap (λ (t : List ℕ). t ++ drop 4 bytes) (sym (text-number_in order bytes there octets))

-- the record that the octets at the front say, and what stands behind it
pub text-record_at : (order : Order) (bytes : List ℕ) → IsOctets bytes → 16 + kept_at order bytes ≤ length bytes
    → bytes ≡ record_text order (record_at order bytes) ++ drop (16 + kept_at order bytes) bytes
text-record_at order bytes octets there =
    let k = kept_at order bytes in
    let len : (n : ℕ) → length (drop n bytes) ≡ length bytes - n = λ n. length-drop n bytes in
    let p1 = front_and_rest order bytes (omega arith) octets in
    let p2 = front_and_rest order (drop 4 bytes) (omega (arith, len 4)) (octets-drop 4 bytes octets) ∙ ap (λ (t : List ℕ). number_text order 4 (number_in order 4 (drop 4 bytes)) ++ t) (drop-drop 4 4 bytes) in
    let p3 = front_and_rest order (drop 8 bytes) (omega (arith, len 8)) (octets-drop 8 bytes octets) ∙ ap (λ (t : List ℕ). number_text order 4 (number_in order 4 (drop 8 bytes)) ++ t) (drop-drop 4 8 bytes) in
    let p4 = front_and_rest order (drop 12 bytes) (omega (arith, len 12)) (octets-drop 12 bytes octets) ∙ ap (λ (t : List ℕ). number_text order 4 (number_in order 4 (drop 12 bytes)) ++ t) (drop-drop 4 12 bytes) in
    let p5 : drop 16 bytes ≡ take k (drop 16 bytes) ++ drop (16 + k) bytes =
    sym (take-append-drop k (drop 16 bytes)) ∙ ap (λ (t : List ℕ). take k (drop 16 bytes) ++ t) (drop-drop k 16 bytes) in
    let frame_long : length (take k (drop 16 bytes)) ≡ k = length-take-le k (drop 16 bytes) (omega (arith, len 16)) in
    let a = number_in order 4 bytes in
    let b = number_in order 4 (drop 4 bytes) in
    let d = number_in order 4 (drop 12 bytes) in
    let f = take k (drop 16 bytes) in
    let rest = drop (16 + k) bytes in
    let whole : bytes ≡ number_text order 4 a ++ (number_text order 4 b ++ (number_text order 4 k ++ (number_text order 4 d ++ (f ++ rest)))) =
    p1 ∙ ap (λ (t : List ℕ). number_text order 4 a ++ t) (p2 ∙ ap (λ (t : List ℕ). number_text order 4 b ++ t) (p3
    ∙ ap (λ (t : List ℕ). number_text order 4 k ++ t) (p4 ∙ ap (λ (t : List ℕ). number_text order 4 d ++ t) p5))) in
    whole ∙ sym (parts order a b k d f rest)
    ∙ ap (λ (n : ℕ). (number_text order 4 a ++ (number_text order 4 b ++ (number_text order 4 n ++ (number_text order 4 d ++ f)))) ++ rest) (sym frame_long)

pub stored_at : (order : Order) (bytes : List ℕ) → IsOctets bytes → 16 + kept_at order bytes ≤ length bytes → kept_at order bytes ≤ 262144
    → IsStored (record_at order bytes)
stored_at order bytes octets there few =
    let len = length-drop 16 bytes in
    let frame_long : length (take (kept_at order bytes) (drop 16 bytes)) ≡ kept_at order bytes =
    length-take-le (kept_at order bytes) (drop 16 bytes) (omega arith) in
    record {
      secs = number_in-lt order 4 bytes octets;
      fraction = number_in-lt order 4 (drop 4 bytes) (octets-drop 4 bytes octets);
      wire_length = number_in-lt order 4 (drop 12 bytes) (octets-drop 12 bytes octets);
      frame = omega arith;
    }
