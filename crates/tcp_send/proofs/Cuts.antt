-- Segments in flight are cuts of what is kept.
use Rattle.std.proofs.Common.{◌≡◌, ◌≤◌, ◌<◌, ℕ, ◌+◌, ◌-◌, Bool, true, false, IsTrue, nat_le, List, [], ◌∷◌, ◌++◌, slice_get, Some, None, refl, subst, arith, inl, inr}
use Rattle.std.specs.Prelude.{if◌then◌else◌}
use Rattle.tcp_send.specs.declared.flight.Segment.{Segment}
use Rattle.tcp_send.specs.Flight.{Flight, IsCutFrom, AreCutFrom, octets_of, left_of, fin_number}
use Rattle.std.proofs.lemmas.Bool.{lt-leb}
use Rattle.std.proofs.lemmas.Bool.Decides.{leb_tells}

pub stays-none : (una base : ℕ) (flight : List Segment) → slice_get flight 0 ≡ None → left_of una base flight ≡ record { base = base; segments = flight }
stays-none una base [] e = refl
stays-none una base (s ∷ ss) e = absurd (cc)

pub stays-some : (una base : ℕ) (flight : List Segment) (s : Segment) → slice_get flight 0 ≡ Some s → una < base + s.len + fin_number s.fin
    → left_of una base flight ≡ record { base = base; segments = flight }
stays-some una base [] s e lt = refl
stays-some una base (x ∷ ss) s e lt =
    let f : s ≡ x = cc in
    let IsAbove : Segment → Type 0 = λ (y : Segment). una < base + y.len + fin_number y.fin in
    let t = lt-leb (base + x.len + fin_number x.fin) una (subst IsAbove f lt) in
    rw t refl

-- where what stays begins
pub left-base : (una base : ℕ) (flight : List Segment) → base ≤ (left_of una base flight).base
left-base una base [] = omega arith
left-base una base (s ∷ ss) =
    let h = left-base una (base + s.len) ss in
    let all : Flight = record { base = base; segments = s ∷ ss } in
    elim (nat_le (base + s.len + fin_number s.fin) una) as (λ b. base ≤ (if b then left_of una (base + s.len) ss else all).base) [ true ↦ omega arith | false ↦ omega arith ]

pub left-sum : (una base : ℕ) (flight : List Segment) → (left_of una base flight).base + octets_of (left_of una base flight).segments ≡ base + octets_of flight
left-sum una base [] = refl
left-sum una base (s ∷ ss) =
    let h = left-sum una (base + s.len) ss in
    let all : Flight = record { base = base; segments = s ∷ ss } in
    elim (nat_le (base + s.len + fin_number s.fin) una)
    as (λ b. (if b then left_of una (base + s.len) ss else all).base + octets_of (if b then left_of una (base + s.len) ss else all).segments ≡ base + (s.len + octets_of ss))
    [ true ↦ omega arith | false ↦ refl ]

pub left-una : (una base : ℕ) (flight : List Segment) → base ≤ una → (left_of una base flight).base ≤ una
left-una una base [] le = le
left-una una base (s ∷ ss) le =
    elim (leb_tells (base + s.len + fin_number s.fin) una) [
      | inl w ↦ rw w.0 (left-una una (base + s.len) ss (omega (arith, w.1)))
      | inr w ↦ rw w.0 le
    ]

pub left-cuts : (finished : Bool) (una base octets : ℕ) (flight : List Segment) → AreCutFrom finished octets flight
    → AreCutFrom finished (octets - ((left_of una base flight).base - base)) (left_of una base flight).segments
left-cuts finished una base octets [] h = tt
left-cuts finished una base octets (s ∷ ss) h =
    let all : Flight = record { base = base; segments = s ∷ ss } in
    let later = left_of una (base + s.len) ss in
    let le = left-base una (base + s.len) ss in
    let e : octets - s.len - (later.base - (base + s.len)) ≡ octets - (later.base - base) = omega arith in
    let f : octets ≡ octets - (base - base) = omega arith in
    let Are : ℕ → Type 0 = λ n. AreCutFrom finished n later.segments in
    let Whole : ℕ → Type 0 = λ n. AreCutFrom finished n (s ∷ ss) in
    elim (nat_le (base + s.len + fin_number s.fin) una)
    as (λ b. AreCutFrom finished (octets - ((if b then later else all).base - base)) (if b then later else all).segments)
    [ true ↦ subst Are e (left-cuts finished una (base + s.len) (octets - s.len) ss h.1) | false ↦ subst Whole f h ]

pub cuts-finished : (finished : Bool) (octets : ℕ) (flight : List Segment) → AreCutFrom finished octets flight → AreCutFrom true octets flight
cuts-finished finished octets [] h = tt
cuts-finished finished octets (s ∷ ss) h =
    (record { within = h.0.within; most = h.0.most; fin = λ _. refl; last = h.0.last }, cuts-finished finished (octets - s.len) ss h.1)

never : {A : Type 0} → IsTrue false → A
never h = cc

pub cuts-longer : (octets more : ℕ) (flight : List Segment) → octets ≤ more → AreCutFrom false octets flight → AreCutFrom false more flight
cuts-longer octets more [] le h = tt
cuts-longer octets more (s ∷ ss) le h =
    let within : s.len ≤ more = omega (arith, h.0.within) in
    (record { within = within; most = h.0.most; fin = h.0.fin; last = λ fin. never (h.0.fin fin) }, cuts-longer (octets - s.len) (more - s.len) ss (omega arith) h.1)

pub octets-more : (flight : List Segment) (s : Segment) → octets_of (flight ++ s ∷ []) ≡ octets_of flight + s.len
octets-more [] s = omega arith
octets-more (x ∷ flight) s = omega (arith, octets-more flight s)

pub cuts-more : (finished : Bool) (octets rest : ℕ) (flight : List Segment) (s : Segment) → rest ≡ octets - octets_of flight → AreCutFrom finished octets flight
    → IsCutFrom finished rest s → AreCutFrom finished octets (flight ++ s ∷ [])
cuts-more finished octets rest [] s e h i =
    let f : rest ≡ octets = omega arith in
    let Is : ℕ → Type 0 = λ n. IsCutFrom finished n s in
    (subst Is f i, tt)
cuts-more finished octets rest (x ∷ flight) s e h i = (h.0, cuts-more finished (octets - x.len) rest flight s (omega arith) h.1 i)

pub first-most : (finished : Bool) (octets : ℕ) (flight : List Segment) (s : Segment) → slice_get flight 0 ≡ Some s → AreCutFrom finished octets flight → s.len ≤ 1460
first-most finished octets [] s e h = absurd (cc)
first-most finished octets (x ∷ flight) s e h =
    let f : x ≡ s = cc in
    let Is : Segment → Type 0 = λ (y : Segment). y.len ≤ 1460 in
    subst Is f h.0.most

pub first-none : (flight : List Segment) → slice_get flight 0 ≡ None → flight ≡ []
first-none [] e = refl
first-none (x ∷ flight) e = absurd (cc)
