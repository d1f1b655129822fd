-- Steps of a loop over a piece.
use Rattle.std.proofs.Common.{◌≡◌, ℕ, suc, ◌+◌, ◌-◌, ◌<◌, ◌≤◌, false, List, [], ◌∷◌, ◌++◌, length, take, drop, refl, sym, ap, ◌∙◌, arith, length-take-le, append-nil, inl, inr, length-append, length-drop, zero-add}
use Rattle.std.proofs.lemmas.Bool.{cases_lt}
use Rattle.std.proofs.lemmas.List.{drop_all, take_rest, drop-drop, take-append-drop}
use borrow.Rule.Slice.PartMut.{put_mid}
use Rattle.wire_http.specs.declared.stage.Stage.{Stage}
use Rattle.wire_http.specs.Stages.{walk, is_ended}
use Rattle.wire_http.proofs.RunLaws.{prepend, walk-append}

take_over : (xs ys : List ℕ) (n k : ℕ) → n ≡ length xs + k → take n (xs ++ ys) ≡ xs ++ take k ys
take_over [] ys n k e = ap (λ (m : ℕ). take m ys) (e ∙ zero-add k)
take_over (x ∷ xs) ys n k e =
    let on : n ≡ suc (length xs + k) = omega arith in
    ap (λ (m : ℕ). take m (x ∷ xs ++ ys)) on ∙ ap (λ (t : List ℕ). x ∷ t) (take_over xs ys (length xs + k) k refl)

drop_over : (xs ys : List ℕ) (n k : ℕ) → n ≡ length xs + k → drop n (xs ++ ys) ≡ drop k ys
drop_over [] ys n k e = ap (λ (m : ℕ). drop m ys) (e ∙ zero-add k)
drop_over (x ∷ xs) ys n k e =
    let on : n ≡ suc (length xs + k) = omega arith in
    ap (λ (m : ℕ). drop m (x ∷ xs ++ ys)) on ∙ drop_over xs ys (length xs + k) k refl

pub take_plus : (xs : List ℕ) (r k : ℕ) → r ≤ length xs → take (r + k) xs ≡ take r xs ++ take k (drop r xs)
take_plus xs r k h =
    let len = length-take-le r xs h in
    ap (take (r + k)) (sym (take-append-drop r xs)) ∙ take_over (take r xs) (drop r xs) (r + k) k (omega arith)

put_rest : (p : ℕ) (xs ys : List ℕ) → put_mid p (length xs - p) xs ys ≡ take p xs ++ ys
put_rest p xs ys =
    let none : drop (length xs - p) (drop p xs) ≡ [] =
    drop_all (length xs - p) (drop p xs) (omega (arith, length-drop p xs)) in
    ap (λ (t : List ℕ). take p xs ++ (ys ++ t)) none ∙ ap (λ (t : List ℕ). take p xs ++ t) (append-nil ys)

module _ (s s1 s2 : Stage) (piece place0 place1 sub : List ℕ) (r p dr dp : ℕ)
    (walked : walk s (take r piece) ≡ (take p place1, s1)) (r_in : r ≤ length piece) (p_in : p ≤ length place1) where
  abbrev pub part : List ℕ
  part = take (length piece - r) (drop r piece)

  abbrev pub after : List ℕ
  after = put_mid p (length place1 - p) place1 sub

  joined : (k : ℕ) → walk s (take (r + k) piece) ≡ prepend (take p place1) (walk s1 (take k part))
  joined k =
      ap (walk s) (take_plus piece r k r_in ∙ ap (λ (t : List ℕ). take r piece ++ take k t) (sym (take_rest piece r)))
      ∙ walk-append s (take r piece) (take k part)
      ∙ ap (λ (w : List ℕ × Stage). prepend w.0 (walk w.1 (take k part))) walked

  pub feed_walked : walk s1 (take dr part) ≡ (take dp sub, s2)
      → walk s (take (r + dr) piece) ≡ (take (p + dp) after, s2)
  feed_walked step =
      let len = length-take-le p place1 p_in in
      let front : take (p + dp) after ≡ take p place1 ++ take dp sub =
      ap (take (p + dp)) (put_rest p place1 sub) ∙ take_over (take p place1) sub (p + dp) dp (omega arith) in
      joined dr ∙ ap (prepend (take p place1)) step ∙ ap (λ (t : List ℕ). (t, s2)) (sym front)

  pub feed_early : ((k : ℕ) → k < r → is_ended (walk s (take k piece)).1 ≡ false)
      → ((k : ℕ) → k < dr → is_ended (walk s1 (take k part)).1 ≡ false)
      → (k : ℕ) → k < r + dr → is_ended (walk s (take k piece)).1 ≡ false
  feed_early before later k less =
      elim (cases_lt k r) [
        | inl small ↦ before k small
        | inr large ↦
            let on : k ≡ r + (k - r) = omega arith in
            ap (λ (n : ℕ). is_ended (walk s (take n piece)).1) on
            ∙ ap (λ (w : List ℕ × Stage). is_ended w.1) (joined (k - r))
            ∙ later (k - r) (omega arith)
      ]

  pub feed_beyond : drop p place1 ≡ drop p place0 → drop dp sub ≡ drop dp (take (length place1 - p) (drop p place1))
      → drop (p + dp) after ≡ drop (p + dp) place0
  feed_beyond before same =
      let len = length-take-le p place1 p_in in
      ap (drop (p + dp)) (put_rest p place1 sub)
      ∙ drop_over (take p place1) sub (p + dp) dp (omega arith)
      ∙ same
      ∙ ap (drop dp) (take_rest place1 p ∙ before)
      ∙ drop-drop dp p place0

  pub feed_length : length sub ≡ length (take (length place1 - p) (drop p place1)) → length after ≡ length place1
  feed_length same =
      ap length (put_rest p place1 sub)
      ∙ omega (
        arith,
        same,
        length-append (take p place1) sub,
        length-take-le p place1 p_in,
        ap length (take_rest place1 p),
        length-drop p place1,
      )

  pub feed_read : dr ≤ length part → r + dr ≤ length piece
  feed_read h = omega (arith, ap length (take_rest piece r), length-drop r piece)

  pub feed_placed : dp ≤ length (take (length place1 - p) (drop p place1)) → length after ≡ length place1
      → p + dp ≤ length after
  feed_placed h same = omega (arith, same, ap length (take_rest place1 p), length-drop p place1)
