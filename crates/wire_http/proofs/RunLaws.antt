-- Walks over octets of a body.
use Rattle.std.proofs.Common.{◌≡◌, ◌==◌, cond, ℕ, zero, suc, ◌-◌, ◌<◌, ◌≤◌, Bool, true, false, List, [], ◌∷◌, ◌++◌, length, take, refl, sym, ap, ◌∙◌, subst, arith, length-take-le}
use Rattle.std.proofs.lemmas.Bool.Decides.{nat_tests}
use Rattle.std.proofs.lemmas.List.{take_all}
use Rattle.efi_base.specs.declared.response.Part.{Part}
use Rattle.wire_http.specs.declared.stage.Stage.{Stage}
use Rattle.wire_http.specs.declared.stage.Stage.TheVariants.{Done, Bad, Left, UntilEnd, Line, Octets, Return, Feed, Trailer}
use Rattle.wire_http.specs.Stages.{walk, step, put_front, wants_octets, allows, after_run, is_ended, left_stage, octets_stage}

-- what was placed before stands in front
abbrev pub prepend : List ℕ → List ℕ × Stage → List ℕ × Stage
prepend octets walked = (octets ++ walked.0, walked.1)

pub walk-append : (s : Stage) (xs ys : List ℕ) → walk s (xs ++ ys) ≡ prepend (walk s xs).0 (walk (walk s xs).1 ys)
walk-append s [] ys = refl
walk-append s (x ∷ xs) ys = by_test (wants_octets s) (walk-append (step s x) xs ys)
  where
    by_test : (b : Bool) → walk (step s x) (xs ++ ys) ≡ prepend (walk (step s x) xs).0 (walk (walk (step s x) xs).1 ys)
        → put_front b x (walk (step s x) (xs ++ ys))
        ≡ prepend (put_front b x (walk (step s x) xs)).0 (walk (put_front b x (walk (step s x) xs)).1 ys)
    by_test true e = ap (put_front true x) e
    by_test false e = e

pub walk_done : (xs : List ℕ) → walk Done xs ≡ ([], Done)
walk_done [] = refl
walk_done (x ∷ xs) = walk_done xs

pub walk_bad : (p : Part) (xs : List ℕ) → walk (Bad p) xs ≡ ([], Bad p)
walk_bad p [] = refl
walk_bad p (x ∷ xs) = walk_bad p xs

pub walk_until_end : (xs : List ℕ) → walk UntilEnd xs ≡ (xs, UntilEnd)
walk_until_end [] = refl
walk_until_end (x ∷ xs) = ap (put_front true x) (walk_until_end xs)

not_zero : (n : ℕ) → (suc n == 0) ≡ false
not_zero n = grind (arith, nat_tests)

pub left_some : (n : ℕ) → left_stage (suc n) ≡ Left (suc n)
left_some n = ap (λ (t : Bool). cond t Done (Left (suc n))) (not_zero n)

pub octets_some : (n : ℕ) → octets_stage (suc n) ≡ Octets (suc n)
octets_some n = ap (λ (t : Bool). cond t Return (Octets (suc n))) (not_zero n)

-- a body with a length
pub walk_left : (n : ℕ) (xs : List ℕ) → walk (left_stage n) xs ≡ (take n xs, left_stage (n - length xs))
walk_left zero xs = walk_done xs ∙ nothing xs
  where
    nothing : (xs : List ℕ) → ◌≡◌ {A = List ℕ × Stage} ([], Done) (take zero xs, left_stage (zero - length xs))
    nothing xs = let e : zero - length xs ≡ zero = omega arith in rw e refl
walk_left (suc n) [] = let e : suc n - zero ≡ suc n = omega arith in rw e refl
walk_left (suc n) (x ∷ xs) =
    let less : suc n - 1 ≡ n = omega arith in
    let same : suc n - length (x ∷ xs) ≡ n - length xs = omega arith in
    ap (λ (s : Stage). walk s (x ∷ xs)) (left_some n)
    ∙ ap (λ (k : ℕ). put_front true x (walk (left_stage k) xs)) less
    ∙ ap (put_front true x) (walk_left n xs)
    ∙ ap (λ (k : ℕ). (x ∷ take n xs, left_stage k)) (sym same)

-- a chunk's octets
pub walk_octets : (n : ℕ) (xs : List ℕ) → length xs ≤ n → walk (octets_stage n) xs ≡ (xs, octets_stage (n - length xs))
walk_octets n [] h = let e : n - zero ≡ n = omega arith in rw e refl
walk_octets zero (x ∷ xs) h = absurd (omega arith)
walk_octets (suc n) (x ∷ xs) h =
    let less : suc n - 1 ≡ n = omega arith in
    let same : suc n - length (x ∷ xs) ≡ n - length xs = omega arith in
    ap (λ (s : Stage). walk s (x ∷ xs)) (octets_some n)
    ∙ ap (λ (k : ℕ). put_front true x (walk (octets_stage k) xs)) less
    ∙ ap (put_front true x) (walk_octets n xs (omega arith))
    ∙ ap (λ (k : ℕ). (x ∷ xs, octets_stage k)) (sym same)

-- a run of octets of the body
pub walk_run : (s : Stage) (xs : List ℕ) → wants_octets s ≡ true → 0 < length xs → allows s (length xs)
    → walk s xs ≡ (xs, after_run s (length xs))
walk_run Done xs w some fits = absurd (cc)
walk_run (Bad p) xs w some fits = absurd (cc)
walk_run (Line place size len) xs w some fits = absurd (cc)
walk_run Return xs w some fits = absurd (cc)
walk_run Feed xs w some fits = absurd (cc)
walk_run (Trailer place fields len) xs w some fits = absurd (cc)
walk_run UntilEnd xs w some fits = walk_until_end xs
walk_run (Left n) [] w some fits = absurd (omega arith)
walk_run (Left n) (x ∷ xs) w some fits =
    let same : n - 1 - length xs ≡ n - length (x ∷ xs) = omega arith in
    let all = take_all (n - 1) xs (omega arith) in
    ap (put_front true x) (walk_left (n - 1) xs ∙ ap (λ (t : List ℕ). (t, left_stage (n - 1 - length xs))) all)
    ∙ ap (λ (k : ℕ). (x ∷ xs, left_stage k)) same
walk_run (Octets n) [] w some fits = absurd (omega arith)
walk_run (Octets n) (x ∷ xs) w some fits =
    let same : n - 1 - length xs ≡ n - length (x ∷ xs) = omega arith in
    ap (put_front true x) (walk_octets (n - 1) xs (omega arith))
    ∙ ap (λ (k : ℕ). (x ∷ xs, octets_stage k)) same

-- within a run nothing has ended
pub run_goes_on : (s : Stage) (n k : ℕ) → wants_octets s ≡ true → allows s n → k < n → is_ended (after_run s k) ≡ false
run_goes_on Done n k w fits less = absurd (cc)
run_goes_on (Bad p) n k w fits less = absurd (cc)
run_goes_on (Line place size len) n k w fits less = absurd (cc)
run_goes_on Return n k w fits less = absurd (cc)
run_goes_on Feed n k w fits less = absurd (cc)
run_goes_on (Trailer place fields len) n k w fits less = absurd (cc)
run_goes_on UntilEnd n k w fits less = refl
run_goes_on (Left m) n k w fits less = some (m - k) (omega arith)
  where
    some : (j : ℕ) → 0 < j → is_ended (left_stage j) ≡ false
    some zero h = absurd (omega arith)
    some (suc j) h = ap is_ended (left_some j)
run_goes_on (Octets m) n k w fits less = some (m - k)
  where
    some : (j : ℕ) → is_ended (octets_stage j) ≡ false
    some zero = refl
    some (suc j) = ap is_ended (octets_some j)

pub allows_less : (s : Stage) (n k : ℕ) → wants_octets s ≡ true → allows s n → k ≤ n → allows s k
allows_less Done n k w fits less = absurd (cc)
allows_less (Bad p) n k w fits less = absurd (cc)
allows_less (Line place size len) n k w fits less = absurd (cc)
allows_less Return n k w fits less = absurd (cc)
allows_less Feed n k w fits less = absurd (cc)
allows_less (Trailer place fields len) n k w fits less = absurd (cc)
allows_less UntilEnd n k w fits less = tt
allows_less (Left m) n k w fits less = omega arith
allows_less (Octets m) n k w fits less = omega arith

-- so at each octet of it
pub run_early : (s : Stage) (xs : List ℕ) (n k : ℕ) → wants_octets s ≡ true → is_ended s ≡ false → allows s n
    → n ≤ length xs → k < n → is_ended (walk s (take k xs)).1 ≡ false
run_early s xs n zero w on fits many less = on
run_early s xs n (suc k) w on fits many less =
    let count : length (take (suc k) xs) ≡ suc k = length-take-le (suc k) xs (omega arith) in
    let small : allows s (length (take (suc k) xs)) = subst (allows s) (sym count) (allows_less s n (suc k) w fits (omega arith)) in
    ap (λ (r : List ℕ × Stage). is_ended r.1) (walk_run s (take (suc k) xs) w (omega arith) small)
    ∙ ap (λ (j : ℕ). is_ended (after_run s j)) count
    ∙ run_goes_on s n (suc k) w fits less
