-- What is read of a body in pieces.
use Rattle.std.proofs.Common.{◌≡◌, ◌≢◌, ℕ, ◌+◌, ◌-◌, ◌<◌, ◌≤◌, Bool, true, false, List, [], ◌∷◌, ◌++◌, length, take, drop, refl, sym, ap, ◌∙◌, subst, arith, append_assoc, append-nil, length-append, length-take, length-take-le, length-drop, take-append-drop}
use Rattle.std.proofs.lemmas.List.{take_all, take_rest}
use Rattle.wire_http.specs.declared.bodies.BodyState.{BodyState}
use Rattle.wire_http.specs.declared.bodies.BodyState.TheVariants.{More, Whole, Bad}
use Rattle.wire_http.specs.declared.head.Framing.{Framing}
use Rattle.wire_http.specs.declared.stage.Stage.{Stage}
use Rattle.wire_http.specs.declared.stage.Stage.TheVariants as stage
use Rattle.wire_http.specs.Body.{HoldsSoFar}
use Rattle.wire_http.specs.Feeding.{IsState, answer}
use Rattle.wire_http.specs.Stages.{walk, step, start, put_front, wants_octets}
use Rattle.wire_http.proofs.Feeds.{take_plus}
use Rattle.wire_http.proofs.RunLaws.{prepend, walk-append, walk_done, walk_bad}
use Rattle.wire_http.proofs.BodyLaws.{state_is}
use Rattle.wire_http.proofs.PieceLaws.{so_far_is, so_far_unique}
use Rattle.load_core.specs.declared.reading.Reading.{Reading}
use Rattle.load_core.specs.Taken.{Reads, ReadsOn}

-- ---- a body has no more octets than were read

put_short : (b : Bool) (x n : ℕ) (w : List ℕ × Stage) → length w.0 ≤ n → length (put_front b x w).0 ≤ n + 1
put_short true x n w h = omega arith
put_short false x n w h = omega arith

walk_short : (s : Stage) (xs : List ℕ) → length (walk s xs).0 ≤ length xs
walk_short s [] = omega arith
walk_short s (x ∷ xs) =
    let later : length (walk (step s x) xs).0 ≤ length xs = walk_short (step s x) xs in
    let here = put_short (wants_octets s) x (length xs) (walk (step s x) xs) later in
    omega (arith, here)

pub so_far_short : (f : Framing) (rest octets : List ℕ) → HoldsSoFar f rest octets → length octets ≤ length rest
so_far_short f rest octets h =
    let same = ap length (so_far_unique f rest octets h) in
    omega (arith, same, walk_short (start f) rest)

pub counted : (f : Framing) (rest octets piece more : List ℕ) (k old placed count : ℕ)
    → HoldsSoFar f (rest ++ take k piece) (octets ++ more) → length more ≡ placed → old ≡ length octets
    → length rest + length piece ≤ 4611686018427387904 → (old + placed ≤ 18446744073709551615 → count ≡ old + placed)
    → count ≡ length (octets ++ more)
counted f rest octets piece more k old placed count h long before bound sum =
    let short = so_far_short f (rest ++ take k piece) (octets ++ more) h in
    let both = length-append octets more in
    let sum_is : count ≡ old + placed = sum (omega (arith, short, both, long, before, length-append rest (take k piece), length-take k piece)) in
    omega (arith, sum_is, both, long, before)

-- nothing is placed where nothing is read
pub none_placed : (f : Framing) (rest octets piece more : List ℕ) (k : ℕ) → HoldsSoFar f rest octets
    → HoldsSoFar f (rest ++ take k piece) (octets ++ more) → k ≡ 0 → length more ≡ 0
none_placed f rest octets piece more k h now none =
    let same : rest ++ take k piece ≡ rest = ap (λ (n : ℕ). rest ++ take n piece) none ∙ append-nil rest in
    let one = so_far_unique f rest octets h in
    let two = so_far_unique f rest (octets ++ more) (subst (λ (t : List ℕ). HoldsSoFar f t (octets ++ more)) same now) in
    omega (arith, ap length (two ∙ sym one), length-append octets more)

-- ---- a body that is whole or bad stays so

state_same : (a b : BodyState) (f : Framing) (fin : Bool) (rest : List ℕ) → IsState a f fin rest → IsState b f fin rest → a ≡ b
state_same Whole b f fin rest x y = let w = x.whole refl in sym (y.is_whole w.0 w.1)
state_same (Bad p) b f fin rest x y = sym (y.is_bad p (x.bad p refl))
state_same More More f fin rest x y = refl
state_same More Whole f fin rest x y = let w = y.whole refl in x.is_whole w.0 w.1
state_same More (Bad p) f fin rest x y = x.is_bad p (y.bad p refl)

stays : (s : Stage) → answer s ≢ More → (more : List ℕ) → walk s more ≡ ([], s)
stays stage.Done h more = walk_done more
stays (stage.Bad p) h more = walk_bad p more
stays (stage.Left n) h more = absurd (h refl)
stays stage.UntilEnd h more = absurd (h refl)
stays (stage.Line p s l) h more = absurd (h refl)
stays (stage.Octets n) h more = absurd (h refl)
stays stage.Return h more = absurd (h refl)
stays stage.Feed h more = absurd (h refl)
stays (stage.Trailer p f l) h more = absurd (h refl)

pub reads-ended : (r : Reading) (rest octets more : List ℕ) → Reads r rest octets → r.state ≢ More → Reads r (rest ++ more) octets
reads-ended r rest octets more h ended =
    let f = r.info.framing in
    let s = (walk (start f) rest).1 in
    let same : r.state ≡ answer s = state_same r.state (answer s) f false rest h.state (state_is f rest) in
    let on : walk (start f) (rest ++ more) ≡ prepend (walk (start f) rest).0 ([], s) =
    walk-append (start f) rest more ∙ ap (prepend (walk (start f) rest).0) (stays s (λ e. ended (same ∙ e)) more) in
    let stage_is : (walk (start f) (rest ++ more)).1 ≡ s = ap (λ (w : List ℕ × Stage). w.1) on in
    let octets_are : (walk (start f) (rest ++ more)).0 ≡ octets =
    ap (λ (w : List ℕ × Stage). w.0) on ∙ append-nil (walk (start f) rest).0 ∙ sym (so_far_unique f rest octets h.so_far) in
    record {
      read = stage_is ∙ h.read;
      state = subst (λ (b : BodyState). IsState b f false (rest ++ more)) (ap answer stage_is ∙ sym same) (state_is f (rest ++ more));
      so_far = subst (HoldsSoFar f (rest ++ more)) octets_are (so_far_is f (rest ++ more));
      count = h.count;
    }

-- ---- pieces

pub reads-none : (r : Reading) (most : ℕ) (placed rest octets : List ℕ) → Reads r rest octets → placed ≡ take most octets
    → ReadsOn r most placed (rest ++ []) octets
reads-none r most placed rest octets h p = (
  [],
  subst (λ (t : List ℕ). Reads r t (octets ++ [])) (sym (append-nil rest)) (subst (Reads r rest) (sym (append-nil octets)) h),
  p ∙ ap (take most) (sym (append-nil octets)),
)

-- a later part of a piece
pub reads-later : (r : Reading) (most : ℕ) (placed t octets a : List ℕ) → ReadsOn r most placed t (octets ++ a)
    → ReadsOn r most placed t octets
reads-later r most placed t octets a w = (
  a ++ w.0,
  subst (Reads r t) (append_assoc octets a w.0) w.1,
  w.2 ∙ ap (take most) (append_assoc octets a w.0),
)

piece_on : (rest piece : List ℕ) (at n : ℕ) → at ≤ length piece
    → (rest ++ take at piece) ++ take n (take (length piece - at) (drop at piece)) ≡ rest ++ take (at + n) piece
piece_on rest piece at n h =
    append_assoc rest (take at piece) (take n (take (length piece - at) (drop at piece)))
    ∙ ap (λ (t : List ℕ). rest ++ (take at piece ++ take n t)) (take_rest piece at)
    ∙ ap (λ (t : List ℕ). rest ++ t) (sym (take_plus piece at n h))

pub reads-step : (r : Reading) (most : ℕ) (placed rest piece octets a : List ℕ) (at n : ℕ) → at ≤ length piece
    → ReadsOn r most placed ((rest ++ take at piece) ++ take n (take (length piece - at) (drop at piece))) (octets ++ a)
    → ReadsOn r most placed (rest ++ take (at + n) piece) octets
reads-step r most placed rest piece octets a at n h w =
    reads-later r most placed (rest ++ take (at + n) piece) octets a
    (subst (λ (t : List ℕ). ReadsOn r most placed t (octets ++ a)) (piece_on rest piece at n h) w)

-- the rest of the piece isn't looked at
pub reads-rest : (r : Reading) (most : ℕ) (placed rest piece octets : List ℕ) (at : ℕ)
    → ReadsOn r most placed (rest ++ take at piece) octets → r.state ≢ More → ReadsOn r most placed (rest ++ piece) octets
reads-rest r most placed rest piece octets at w ended =
    let all : (rest ++ take at piece) ++ drop at piece ≡ rest ++ piece =
    append_assoc rest (take at piece) (drop at piece) ∙ ap (λ (t : List ℕ). rest ++ t) (take-append-drop at piece) in (
      w.0,
      subst (λ (t : List ℕ). Reads r t (octets ++ w.0)) all (reads-ended r (rest ++ take at piece) (octets ++ w.0) (drop at piece) w.1 ended),
      w.2,
    )

pub reads-all : (r : Reading) (most : ℕ) (placed rest piece octets : List ℕ) (at : ℕ) → length piece ≤ at
    → ReadsOn r most placed (rest ++ take at piece) octets → ReadsOn r most placed (rest ++ piece) octets
reads-all r most placed rest piece octets at h w =
    subst (λ (t : List ℕ). ReadsOn r most placed (rest ++ t) octets) (take_all at piece h) w

part_long : (piece : List ℕ) (at : ℕ) → at ≤ length piece → length (take (length piece - at) (drop at piece)) ≡ length piece - at
part_long piece at h = ap length (take_rest piece at) ∙ length-drop at piece

pub part_some : (piece : List ℕ) (at : ℕ) → at < length piece → 0 < length (take (length piece - at) (drop at piece))
part_some piece at h =
    let inside : at ≤ length piece = omega arith in
    omega (arith, part_long piece at inside)

pub part_end : (piece : List ℕ) (at n : ℕ) → at ≤ length piece → n ≤ length (take (length piece - at) (drop at piece)) → at + n ≤ length piece
part_end piece at n h k = omega (arith, part_long piece at h)

pub part_bound : (rest piece : List ℕ) (at most : ℕ) → at ≤ length piece → length rest + length piece ≤ most
    → length (rest ++ take at piece) + length (take (length piece - at) (drop at piece)) ≤ most
part_bound rest piece at most h bound =
    omega (arith, part_long piece at h, length-append rest (take at piece), length-take-le at piece h)
