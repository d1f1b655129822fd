-- One step of a walk over children, or over tokens.
use Rattle.std.proofs.Common.{◌≡◌, ℕ, zero, suc, ◌+◌, Bool, true, false, ◌||◌, List, [], ◌∷◌, ◌++◌, filter, map, drop, Option, Some, slice_get, option_map, refl, sym, ap, ◌∙◌, cond}
use Rattle.std.specs.List.{list_any}
use Rattle.std.proofs.lemmas.Option.{slice_get-map}
use Rattle.efi_base.specs.declared.units.IpPacket.{IpPacket}
use Rattle.efi_book.specs.declared.children.Child.{Child}
use Rattle.efi_book.specs.Books.{Tokens}
use Rattle.drv_ip4.specs.declared.work.IpCfg.{IpCfg}
use Rattle.drv_ip4.specs.declared.work.IpWork.{IpWork}
use Rattle.drv_ip4.specs.Hearing.{all_given}
use Rattle.drv_ip4.proofs.Removing.{drop-at}

one-given : (d : IpPacket) (b : Bool) (c : Child (Option IpCfg)) (rest : List (Child (Option IpCfg))) (ts : Tokens IpWork)
    → all_given d (cond b (c ∷ rest) rest) ts ≡ all_given d rest (all_given d (cond b (c ∷ []) []) ts)
one-given d true c rest ts = refl
one-given d false c rest ts = refl

-- the child at this place gets the datagram where it passes the test, and then those behind it
pub given-at : (d : IpPacket) (test : Child (Option IpCfg) → Bool) (cs : List (Child (Option IpCfg))) (k : ℕ) (c : Child (Option IpCfg)) (ts : Tokens IpWork)
    → slice_get cs k ≡ Some c
    → all_given d (filter test (drop k cs)) ts ≡ all_given d (filter test (drop (k + 1) cs)) (all_given d (filter test (c ∷ [])) ts)
given-at d test cs k c ts h =
    ap (λ l. all_given d (filter test l) ts) (drop-at cs k c h) ∙ one-given d (test c) c (filter test (drop (k + 1) cs)) ts

-- two lists of children, one after the other
pub both-given : (d : IpPacket) (test : Child (Option IpCfg) → Bool) (xs ys : List (Child (Option IpCfg))) (ts : Tokens IpWork)
    → all_given d (filter test (xs ++ ys)) ts ≡ all_given d (filter test ys) (all_given d (filter test xs) ts)
both-given d test [] ys ts = refl
both-given d test (x ∷ xs) ys ts =
    one-given d (test x) x (filter test (xs ++ ys)) ts
    ∙ both-given d test xs ys (all_given d (cond (test x) (x ∷ []) []) ts)
    ∙ ap (all_given d (filter test ys)) (sym (one-given d (test x) x (filter test xs) ts))

-- what is found at some place is found
pub met : (test : Child (Option IpCfg) → Bool) (cs : List (Child (Option IpCfg))) (k : ℕ) (c : Child (Option IpCfg)) → slice_get cs k ≡ Some c → test c ≡ true → list_any test cs ≡ true
met test [] k c e h = absurd (cc)
met test (x ∷ xs) zero c e h = let same : x ≡ c = cc in ap (λ y. test y || list_any test xs) same ∙ ap (λ b. b || list_any test xs) h
met test (x ∷ xs) (suc k) c e h = ap (λ b. test x || b) (met test xs k c e h) ∙ or-true (test x)
  where
    or-true : (b : Bool) → (b || true) ≡ true
    or-true true = refl
    or-true false = refl

pub passed : (test : Child (Option IpCfg) → Bool) (cs : List (Child (Option IpCfg))) (k : ℕ) (c : Child (Option IpCfg)) → slice_get cs k ≡ Some c → test c ≡ false
    → list_any test (drop (k + 1) cs) ≡ list_any test (drop k cs)
passed test cs k c e h =
    sym (ap (λ b. b || list_any test (drop (k + 1) cs)) h) ∙ sym (ap (list_any test) (drop-at cs k c e))

-- what was found among the tokens that were lent is what is found
pub found : {X Y : Type 0} (f : X → Y) {lent whole : X} {a b : Y} → lent ≡ whole → a ≡ f lent → a ≡ b → f whole ≡ b
found f e is same = ap f (sym e) ∙ sym is ∙ same

-- what a function makes of the element at some place
pub mapped-at : {X Y : Type 0} (f : X → Y) (xs : List X) (k : ℕ) (x : X) (y : Y) → slice_get xs k ≡ Some x → y ≡ f x → slice_get (map f xs) k ≡ Some y
mapped-at f xs k x y h e = slice_get-map f xs k ∙ ap (option_map f) h ∙ ap Some (sym e)
