-- One step of a walk over children.
use Rattle.std.proofs.Common.{◌≡◌, ℕ, zero, suc, ◌+◌, Bool, true, false, ◌||◌, List, [], ◌∷◌, ◌++◌, filter, drop, Option, Some, slice_get, Result, Ok, Err, OnErr, refl, sym, ap, ◌∙◌, cond}
use Rattle.std.specs.List.{list_any}
use Rattle.std.proofs.lemmas.List.{drop_more}
use Rattle.std.proofs.lemmas.Option.{slice_get_within, get_or_from_slice_get}
use Rattle.efi_book.specs.declared.children.Child.{Child}
use Rattle.efi_book.specs.Books.{Tokens}
use Rattle.drv_mnp.specs.declared.work.MnpCfg.{MnpCfg}
use Rattle.drv_mnp.specs.declared.work.MnpWork.{MnpWork}
use Rattle.drv_mnp.specs.Hearing.{all_given}

pub drop-at : {X : Type 0} (xs : List X) (k : ℕ) (x : X) → slice_get xs k ≡ Some x → drop k xs ≡ x ∷ drop (k + 1) xs
drop-at xs k x h = drop_more xs k x (slice_get_within xs k x h) ∙ ap (λ y. y ∷ drop (k + 1) xs) (get_or_from_slice_get xs k x x h)

pub on-err : {T E : Type 0} (r : Result T E) (P : Type 0) → P → OnErr r P
on-err (Ok value) P h = tt
on-err (Err e) P h = h

-- what a test finds from here is found here or behind
pub any-at : {X : Type 0} (test : X → Bool) (xs : List X) (k : ℕ) (x : X) → slice_get xs k ≡ Some x
    → list_any test (drop k xs) ≡ (test x || list_any test (drop (k + 1) xs))
any-at test xs k x h = ap (list_any test) (drop-at xs k x h)

or-true : (b : Bool) → (b || true) ≡ true
or-true true = refl
or-true false = refl

-- what passes the test at some place is found
pub any-found : {X : Type 0} (test : X → Bool) (xs : List X) (k : ℕ) (x : X) → slice_get xs k ≡ Some x → test x ≡ true → list_any test xs ≡ true
any-found test [] k x h t = absurd (cc)
any-found test (y ∷ ys) zero x h t = let same : y ≡ x = cc in ap (λ z. test z || list_any test ys) same ∙ ap (λ b. b || list_any test ys) t
any-found test (y ∷ ys) (suc k) x h t = ap (λ b. test y || b) (any-found test ys k x h t) ∙ or-true (test y)

one-given : (octets : List ℕ) (b : Bool) (c : Child (Option MnpCfg)) (rest : List (Child (Option MnpCfg))) (ts : Tokens MnpWork)
    → all_given octets (cond b (c ∷ rest) rest) ts ≡ all_given octets rest (all_given octets (cond b (c ∷ []) []) ts)
one-given octets true c rest ts = refl
one-given octets false c rest ts = refl

-- the child at this place gets the frame where it passes the test, and then those behind it
pub given-at : (octets : List ℕ) (test : Child (Option MnpCfg) → Bool) (cs : List (Child (Option MnpCfg))) (k : ℕ) (c : Child (Option MnpCfg)) (ts : Tokens MnpWork)
    → slice_get cs k ≡ Some c
    → all_given octets (filter test (drop k cs)) ts ≡ all_given octets (filter test (drop (k + 1) cs)) (all_given octets (filter test (c ∷ [])) ts)
given-at octets test cs k c ts h =
    ap (λ l. all_given octets (filter test l) ts) (drop-at cs k c h) ∙ one-given octets (test c) c (filter test (drop (k + 1) cs)) ts

-- two lists of children, one after the other
pub both-given : (octets : List ℕ) (test : Child (Option MnpCfg) → Bool) (xs ys : List (Child (Option MnpCfg))) (ts : Tokens MnpWork)
    → all_given octets (filter test (xs ++ ys)) ts ≡ all_given octets (filter test ys) (all_given octets (filter test xs) ts)
both-given octets test [] ys ts = refl
both-given octets test (x ∷ xs) ys ts =
    one-given octets (test x) x (filter test (xs ++ ys)) ts
    ∙ both-given octets test xs ys (all_given octets (cond (test x) (x ∷ []) []) ts)
    ∙ ap (all_given octets (filter test ys)) (sym (one-given octets (test x) x (filter test xs) ts))
