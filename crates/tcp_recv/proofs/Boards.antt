-- What is kept of a stream, of which the first bytes were given.
use Rattle.std.proofs.Common.{◌≡◌, ℕ, zero, suc, ◌+◌, ◌-◌, ◌^◌, ◌<◌, ◌≤◌, min, max, Bool, true, false, cond, ◌&&◌, List, [], ◌∷◌, ◌++◌, length, take, drop, map, Option, Some, None, is_none, nat_le, nat_lt, refl, sym, ap, ◌∙◌, arith}
use Rattle.std.proofs.lemmas.List.{drop_all}
use Rattle.std.proofs.lemmas.Bool.Decides.{nat_tests}
use Rattle.std.specs.List.{list_all}
use Rattle.efi_window.specs.Places.{Places, front, put}
use Rattle.tcp_recv.specs.Ends.{up_to_end, end_heard}
use Rattle.tcp_recv.specs.Stream.{Board, Cut, Place, limit_of, end_after, after_placed}

-- bytes without a gap
abbrev pub given_slots : List ℕ → List (Option ℕ)
given_slots given = map (λ b. Some b) given

pub front-given : (given : List ℕ) (held : List (Option ℕ)) → front (given_slots given ++ held) ≡ given ++ front held
front-given [] held = refl
front-given (b ∷ given) held = ap (λ l. b ∷ l) (front-given given held)

drop-nil : (n : ℕ) → drop {A = ℕ} n [] ≡ []
drop-nil zero = refl
drop-nil (suc n) = refl

take-nil : (n : ℕ) → take {A = ℕ} n [] ≡ []
take-nil zero = refl
take-nil (suc n) = refl

-- bytes put over given ones and behind them
pub put-given : (place n : ℕ) (bytes given : List ℕ) (held : List (Option ℕ)) → n ≡ length given
    → put place bytes (given_slots given ++ held) ≡ given_slots given ++ put (place - n) (drop (n - place) bytes) held
put-given place zero bytes [] held e = let a : place - 0 ≡ place = omega arith in let b : 0 - place ≡ 0 = omega arith in rw (a, b) refl
put-given place (suc n) bytes [] held e = absurd (omega arith)
put-given place zero bytes (g ∷ given) held e = absurd (omega arith)
put-given place (suc n) [] (g ∷ given) held e = rw (drop-nil (suc n - place)) refl
put-given zero (suc n) (b ∷ bytes) (g ∷ given) held e =
    let r : put zero bytes (given_slots given ++ held) ≡ given_slots given ++ put (zero - n) (drop (n - zero) bytes) held = put-given zero n bytes given held (omega arith) in
    let a : zero - suc n ≡ zero - n = omega arith in
    let b : suc n - zero ≡ suc (n - zero) = omega arith in
    rw (a, b) (ap (λ l. Some g ∷ l) r)
put-given (suc place) (suc n) (b ∷ bytes) (g ∷ given) held e =
    let r : put place (b ∷ bytes) (given_slots given ++ held) ≡ given_slots given ++ put (place - n) (drop (n - place) (b ∷ bytes)) held = put-given place n (b ∷ bytes) given held (omega arith) in
    let a : suc place - suc n ≡ place - n = omega arith in
    let b : suc n - suc place ≡ n - place = omega arith in
    rw (a, b) (ap (λ l. Some g ∷ l) r)

drop-take_less : (d n : ℕ) (xs : List ℕ) → drop d (take n xs) ≡ take (n - d) (drop d xs)
drop-take_less zero n xs = let a : n - 0 ≡ n = omega arith in rw a refl
drop-take_less (suc d) zero xs = let a : zero - suc d ≡ 0 = omega arith in rw a refl
drop-take_less (suc d) (suc n) [] = sym (take-nil (suc n - suc d))
drop-take_less (suc d) (suc n) (x ∷ xs) = let a : suc n - suc d ≡ n - d = omega arith in rw a (drop-take_less d n xs)

take-take_min : (m n k : ℕ) (xs : List ℕ) → min m n ≡ k → take m (take n xs) ≡ take k xs
take-take_min zero n k xs e = let a : k ≡ 0 = omega arith in rw a refl
take-take_min (suc m) zero k xs e = let a : k ≡ 0 = omega arith in rw a refl
take-take_min (suc m) (suc n) zero xs e = absurd (omega arith)
take-take_min (suc m) (suc n) (suc k) [] e = refl
take-take_min (suc m) (suc n) (suc k) (x ∷ xs) e = ap (λ l. x ∷ l) (take-take_min m n k xs (omega arith))

-- what stands before the end and within the window, by one number and by two
parts-same : (cap taken place : ℕ) (end : Option ℕ) (bytes : List ℕ)
    → drop (taken - place) (take (limit_of cap taken end - place) bytes)
    ≡ take (min (taken + cap) (2 ^ 62) - max place taken) (drop (taken - place) (up_to_end end place bytes))
parts-same cap taken place None bytes =
    let a : min (taken + cap) (2 ^ 62) - place - (taken - place) ≡ min (taken + cap) (2 ^ 62) - max place taken = omega arith in
    drop-take_less (taken - place) (min (taken + cap) (2 ^ 62) - place) bytes ∙ ap (λ n. take n (drop (taken - place) bytes)) a
parts-same cap taken place (Some end) bytes =
    let edge = min (taken + cap) (2 ^ 62) in
    let a : min (edge - max place taken) (end - place - (taken - place)) ≡ min end edge - place - (taken - place) = omega arith in
    drop-take_less (taken - place) (min end edge - place) bytes
    ∙ sym (ap (take (edge - max place taken)) (drop-take_less (taken - place) (end - place) bytes)
    ∙ take-take_min (edge - max place taken) (end - place - (taken - place)) _ (drop (taken - place) bytes) a)

-- whether nothing is kept from a place on, where the first bytes were given
free-given : (place n : ℕ) (given : List ℕ) (held : List (Option ℕ)) → n ≡ length given
    → list_all is_none (drop place (given_slots given ++ held)) ≡ nat_le n place && list_all is_none (drop (place - n) held)
free-given place zero [] held e =
    let a : place - 0 ≡ place = omega arith in
    let t : nat_le 0 place ≡ true = grind (arith, nat_tests) in
    rw (a, t) refl
free-given place (suc n) [] held e = absurd (omega arith)
free-given place zero (g ∷ given) held e = absurd (omega arith)
free-given zero (suc n) (g ∷ given) held e =
    let t : nat_le (suc n) 0 ≡ false = grind (arith, nat_tests) in
    rw t refl
free-given (suc place) (suc n) (g ∷ given) held e =
    let a : suc place - suc n ≡ place - n = omega arith in
    let t : nat_le (suc n) (suc place) ≡ nat_le n place = grind (arith, nat_tests) in
    rw (a, t) (free-given place n given held (omega arith))

-- what is kept after a cut, over what was given
pub after_placed-kept : (cap taken : ℕ) (board : Board) (cut : Cut) (p : Place) (given : List ℕ) (held : List (Option ℕ))
    → taken ≡ length given → board.kept ≡ given_slots given ++ held
    → (after_placed cap taken board cut p).kept
    ≡ given_slots given ++ put (p.place - taken) (take (min (taken + cap) (2 ^ 62) - max p.place taken) (drop (taken - p.place) (up_to_end board.end p.place (drop p.skipped cut.bytes)))) held
after_placed-kept cap taken board cut p given held e k =
    let bytes = take (limit_of cap taken board.end - p.place) (drop p.skipped cut.bytes) in
    rw k (put-given p.place taken bytes given held e
    ∙ ap (λ l. given_slots given ++ put (p.place - taken) l held) (parts-same cap taken p.place board.end (drop p.skipped cut.bytes)))

tests-order : (a b c x : Bool) → a && (b && (c && x)) ≡ c && (a && (b && x))
tests-order true true c x = refl
tests-order true false true x = refl
tests-order true false false x = refl
tests-order false b true x = refl
tests-order false b false x = refl

-- the end after a cut, over what was given
end-given : (room cap taken f : ℕ) (kept : List (Option ℕ)) (end : Option ℕ) (given : List ℕ) (held : List (Option ℕ))
    → taken ≡ length given → kept ≡ given_slots given ++ held
    → end_after cap taken kept end f ≡ end_heard record { room = room; cap = cap; taken = taken; held = held } end true f
end-given room cap taken f kept (Some end) given held e k = refl
end-given room cap taken f kept None given held e k =
    let free : list_all is_none (drop f kept) ≡ nat_le taken f && list_all is_none (drop (f - taken) held) = rw k (free-given f taken given held e) in
    let order = tests-order (nat_le f (taken + cap)) (nat_lt f (2 ^ 62)) (nat_le taken f) (list_all is_none (drop (f - taken) held)) in
    ap (λ t. cond t (Some f) None) (ap (λ t. nat_le f (taken + cap) && (nat_lt f (2 ^ 62) && t)) free ∙ order)

fin-cases : (fin within : Bool) (counted end : Option ℕ) (w : Places) (f : ℕ) → within ≡ true → counted ≡ end_heard w end true f
    → cond (fin && within) counted end ≡ end_heard w end fin f
fin-cases false within counted end w f t e = refl
fin-cases true true counted end w f t e = e
fin-cases true false counted end w f t e = absurd (cc)

pub after_placed-end : (room cap taken : ℕ) (board : Board) (cut : Cut) (p : Place) (given : List ℕ) (held : List (Option ℕ))
    → taken ≡ length given → (after_placed cap taken board cut p).kept ≡ given_slots given ++ held → p.skipped ≤ length cut.bytes
    → (after_placed cap taken board cut p).end
    ≡ end_heard record { room = room; cap = cap; taken = taken; held = held } board.end cut.fin (p.place + length (drop p.skipped cut.bytes))
after_placed-end room cap taken board cut p given held e k h =
    let t : nat_le p.skipped (length cut.bytes) ≡ true = grind (arith, nat_tests) in
    let w : Places = record { room = room; cap = cap; taken = taken; held = held } in
    fin-cases cut.fin _ _ board.end w _ t (end-given room cap taken (p.place + length (drop p.skipped cut.bytes)) _ board.end given held e k)

behind-cases : (fin within : Bool) (counted end : Option ℕ) → within ≡ false → cond (fin && within) counted end ≡ end
behind-cases false within counted end t = refl
behind-cases true false counted end t = refl
behind-cases true true counted end t = absurd (cc)

-- a cut of which nothing has a place changes nothing
pub after_placed-behind : (cap taken : ℕ) (board : Board) (cut : Cut) (p : Place) → length cut.bytes < p.skipped
    → ((after_placed cap taken board cut p).kept ≡ board.kept) × ((after_placed cap taken board cut p).end ≡ board.end)
after_placed-behind cap taken board cut p h =
    let none : drop p.skipped cut.bytes ≡ [] = drop_all p.skipped cut.bytes (omega arith) in
    let t : nat_le p.skipped (length cut.bytes) ≡ false = grind (arith, nat_tests) in
    let n = limit_of cap taken board.end - p.place in
    (ap (λ l. put p.place (take n l) board.kept) none ∙ ap (λ l. put p.place l board.kept) (take-nil n), behind-cases cut.fin _ _ board.end t)
