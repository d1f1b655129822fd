-- A part of a list that stands in two pieces.
use Rattle.std.proofs.Common.{◌≡◌, ℕ, zero, suc, ◌-◌, List, [], ◌∷◌, ◌++◌, length, take, drop, refl, sym, ap, ◌∙◌, arith}

pub take-two : {X : Type 0} (count : ℕ) (front back : List X) → take count (front ++ back) ≡ take count front ++ take (count - length (take count front)) back
take-two zero front back = refl
take-two (suc count) [] back =
    let e : suc count ≡ suc count - 0 = omega arith in
    ap (λ n. take n back) e
take-two (suc count) (x ∷ front) back =
    let n = length (take count front) in
    let e : count - n ≡ suc count - suc n = omega arith in
    ap (λ xs. x ∷ xs) (take-two count front back ∙ ap (λ k. take count front ++ take k back) e)

pub drop-two : {X : Type 0} (skipped : ℕ) (front back : List X) → drop skipped (front ++ back) ≡ drop skipped front ++ drop (skipped - length front) back
drop-two zero front back =
    let e : 0 ≡ 0 - length front = omega arith in
    ap (λ n. front ++ drop n back) e
drop-two (suc skipped) [] back =
    let e : suc skipped ≡ suc skipped - 0 = omega arith in
    ap (λ n. drop n back) e
drop-two (suc skipped) (x ∷ front) back =
    let e : skipped - length front ≡ suc skipped - suc (length front) = omega arith in
    drop-two skipped front back ∙ ap (λ n. drop skipped front ++ drop n back) e

-- a part that begins behind some is a part of the first piece and one of the second
pub part-two : {X : Type 0} (count skipped : ℕ) (front back first second : List X) → first ≡ take count (drop skipped front)
    → second ≡ take (count - length first) (drop (skipped - length front) back) → first ++ second ≡ take count (drop skipped (front ++ back))
part-two count skipped front back first second e f =
    sym (ap (take count) (drop-two skipped front back) ∙ take-two count (drop skipped front) (drop (skipped - length front) back)
    ∙ ap (λ xs. xs ++ take (count - length xs) (drop (skipped - length front) back)) (sym e) ∙ ap (λ ys. first ++ ys) (sym f))
