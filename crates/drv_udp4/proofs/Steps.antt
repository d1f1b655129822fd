-- One step of a walk over children.
use Rattle.std.proofs.Common.{◌≡◌, ℕ, zero, suc, ◌+◌, Bool, true, false, ◌||◌, ◌-◌, ◌<◌, ◌≤◌, if◌then◌else◌, is_none, option_map, List, [], ◌∷◌, ◌++◌, filter, map, drop, Option, Some, None, slice_get, Result, Ok, Err, OnErr, refl, sym, ap, ◌∙◌, cond, arith}
use Rattle.std.specs.List.{list_any}
use Rattle.std.proofs.lemmas.List.{drop_more}
use Rattle.std.proofs.lemmas.Option.{slice_get-map, slice_get_within, get_or_from_slice_get}
use Rattle.efi_book.specs.declared.children.Child.{Child}
use Rattle.efi_book.specs.Books.{Tokens}
use Rattle.drv_udp4.specs.declared.work.UdpCfg.{UdpCfg}
use Rattle.drv_udp4.specs.declared.work.Ask.{Ask}
use Rattle.drv_udp4.specs.Unreached.{all_refused}
use Rattle.drv_udp4.specs.Ports.{has_port, next_free, port_at}
use Rattle.drv_udp4.specs.Hearing.{Heard, all_given}

pub drop-at : {X : Type 0} (xs : List X) (k : ℕ) (x : X) → slice_get xs k ≡ Some x → drop k xs ≡ x ∷ drop (k + 1) xs
drop-at xs k x h = drop_more xs k x (slice_get_within xs k x h) ∙ ap (λ y. y ∷ drop (k + 1) xs) (get_or_from_slice_get xs k x x h)

pub on-err : {T E : Type 0} (r : Result T E) (P : Type 0) → P → OnErr r P
on-err (Ok value) P h = tt
on-err (Err e) P h = h

-- what a test finds from here is found here or behind
pub any-at : {X : Type 0} (test : X → Bool) (xs : List X) (k : ℕ) (x : X) → slice_get xs k ≡ Some x
    → list_any test (drop k xs) ≡ (test x || list_any test (drop (k + 1) xs))
any-at test xs k x h = ap (list_any test) (drop-at xs k x h)

or-true : (b : Bool) → (b || true) ≡ true
or-true true = refl
or-true false = refl

-- what passes the test at some place is found
pub any-found : {X : Type 0} (test : X → Bool) (xs : List X) (k : ℕ) (x : X) → slice_get xs k ≡ Some x → test x ≡ true → list_any test xs ≡ true
any-found test [] k x h t = absurd (cc)
any-found test (y ∷ ys) zero x h t = let same : y ≡ x = cc in ap (λ z. test z || list_any test ys) same ∙ ap (λ b. b || list_any test ys) t
any-found test (y ∷ ys) (suc k) x h t = ap (λ b. test y || b) (any-found test ys k x h t) ∙ or-true (test y)

one-given : (d : Heard) (b : Bool) (c : Child (Option UdpCfg)) (rest : List (Child (Option UdpCfg))) (ts : Tokens Ask)
    → all_given d (cond b (c ∷ rest) rest) ts ≡ all_given d rest (all_given d (cond b (c ∷ []) []) ts)
one-given d true c rest ts = refl
one-given d false c rest ts = refl

-- the child at this place gets the datagram where it passes the test, and then those behind it
pub given-at : (d : Heard) (test : Child (Option UdpCfg) → Bool) (cs : List (Child (Option UdpCfg))) (k : ℕ) (c : Child (Option UdpCfg)) (ts : Tokens Ask)
    → slice_get cs k ≡ Some c
    → all_given d (filter test (drop k cs)) ts ≡ all_given d (filter test (drop (k + 1) cs)) (all_given d (filter test (c ∷ [])) ts)
given-at d test cs k c ts h =
    ap (λ l. all_given d (filter test l) ts) (drop-at cs k c h) ∙ one-given d (test c) c (filter test (drop (k + 1) cs)) ts

-- two lists of children, one after the other
pub both-given : (d : Heard) (test : Child (Option UdpCfg) → Bool) (xs ys : List (Child (Option UdpCfg))) (ts : Tokens Ask)
    → all_given d (filter test (xs ++ ys)) ts ≡ all_given d (filter test ys) (all_given d (filter test xs) ts)
both-given d test [] ys ts = refl
both-given d test (x ∷ xs) ys ts =
    one-given d (test x) x (filter test (xs ++ ys)) ts
    ∙ both-given d test xs ys (all_given d (cond (test x) (x ∷ []) []) ts)
    ∙ ap (all_given d (filter test ys)) (sym (one-given d (test x) x (filter test xs) ts))

-- what a test finds in two lists, one after the other
pub any_joined : {X : Type 0} (test : X → Bool) (xs ys : List X) → list_any test (xs ++ ys) ≡ (list_any test xs || list_any test ys)
any_joined test [] ys = refl
any_joined test (x ∷ xs) ys = ap (λ b. test x || b) (any_joined test xs ys) ∙ or_joins (test x) (list_any test xs) (list_any test ys)
  where
    or_joins : (a b c : Bool) → (a || (b || c)) ≡ ((a || b) || c)
    or_joins true b c = refl
    or_joins false b c = refl

-- one step of a walk that looks for what passes a test
pub any_behind : {X : Type 0} (test : X → Bool) (xs : List X) (k : ℕ) (x : X) (whole : Bool) → slice_get xs k ≡ Some x → test x ≡ false
    → list_any test (drop k xs) ≡ whole → list_any test (drop (k + 1) xs) ≡ whole
any_behind test xs k x whole h t before =
    ap (λ b. b || list_any test (drop (k + 1) xs)) (sym t) ∙ sym (any-at test xs k x h) ∙ before

pub any_here : {X : Type 0} (test : X → Bool) (xs : List X) (k : ℕ) (x : X) (whole : Bool) → slice_get xs k ≡ Some x → test x ≡ true
    → list_any test (drop k xs) ≡ whole → true ≡ whole
any_here test xs k x whole h t before =
    ap (λ b. b || list_any test (drop (k + 1) xs)) (sym t) ∙ sym (any-at test xs k x h) ∙ before

-- what a function makes of nothing is nothing
pub none_mapped : {X Y : Type 0} (f : X → Y) (o : Option X) → is_none (option_map f o) ≡ is_none o
none_mapped f None = refl
none_mapped f (Some x) = refl

-- one step of the search for a free port
pub free_next : (cs : List (Child (Option UdpCfg))) (seed k n : ℕ) (whole : Option ℕ) → 0 < n → list_any (has_port (port_at seed k)) cs ≡ true
    → next_free cs seed k n ≡ whole → next_free cs seed (k + 1) (n - 1) ≡ whole
unfolding next_free
free_next cs seed k zero whole h t e = absurd (omega (arith, h))
free_next cs seed k (suc n) whole h t e =
    let less : suc n - 1 ≡ n = omega arith in
    ap (λ j. next_free cs seed (k + 1) j) less
    ∙ sym (ap (λ b. if b then next_free cs seed (k + 1) n else Some k) t)
    ∙ e

pub free_here : (cs : List (Child (Option UdpCfg))) (seed k n : ℕ) (whole : Option ℕ) → 0 < n → list_any (has_port (port_at seed k)) cs ≡ false
    → next_free cs seed k n ≡ whole → Some k ≡ whole
unfolding next_free
free_here cs seed k zero whole h t e = absurd (omega (arith, h))
free_here cs seed k (suc n) whole h t e =
    sym (ap (λ b. if b then next_free cs seed (k + 1) n else Some k) t) ∙ e

-- the child at this place is told where it passes the test, and then those behind it
one-refused : (b : Bool) (c : Child (Option UdpCfg)) (rest : List (Child (Option UdpCfg))) (ts : Tokens Ask)
    → all_refused (cond b (c ∷ rest) rest) ts ≡ all_refused rest (all_refused (cond b (c ∷ []) []) ts)
one-refused true c rest ts = refl
one-refused false c rest ts = refl

pub refused-at : (test : Child (Option UdpCfg) → Bool) (cs : List (Child (Option UdpCfg))) (k : ℕ) (c : Child (Option UdpCfg)) (ts : Tokens Ask)
    → slice_get cs k ≡ Some c
    → all_refused (filter test (drop k cs)) ts ≡ all_refused (filter test (drop (k + 1) cs)) (all_refused (filter test (c ∷ [])) ts)
refused-at test cs k c ts h =
    ap (λ l. all_refused (filter test l) ts) (drop-at cs k c h) ∙ one-refused (test c) c (filter test (drop (k + 1) cs)) ts

pub free_none : (cs : List (Child (Option UdpCfg))) (seed k n : ℕ) (whole : Option ℕ) → n ≤ 0 → next_free cs seed k n ≡ whole → None ≡ whole
unfolding next_free
free_none cs seed k zero whole h e = e
free_none cs seed k (suc n) whole h e = absurd (omega (arith, h))

-- what a function makes of the element at some place
pub mapped-at : {X Y : Type 0} (f : X → Y) (xs : List X) (k : ℕ) (x : X) (y : Y) → slice_get xs k ≡ Some x → y ≡ f x → slice_get (map f xs) k ≡ Some y
mapped-at f xs k x y h e = slice_get-map f xs k ∙ ap (option_map f) h ∙ ap Some (sym e)
