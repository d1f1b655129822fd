-- Of three entries it doesn't matter which two are compared first.
use Rattle.std.proofs.Common.{◌≡◌, ℕ, zero, suc, ◌+◌, ◌<◌, Bool, true, false, List, [], ◌∷◌, length, get_or, drop, Option, Some, None, refl, sym, ap, ◌∙◌, arith, add-one}
use Rattle.std.proofs.lemmas.Bool.Decides.{nat_tests}
use Rattle.arp_cache.specs.declared.entry.Entry.{Entry}
use Rattle.arp_cache.specs.Entries.{goes_before, staler, candidate, stalest}

over : (a b c : Entry) → goes_before b a ≡ true → goes_before c b ≡ true → goes_before c a ≡ true
over a b c h i = grind (arith, nat_tests)

pub under : (a b c : Entry) → goes_before b a ≡ false → goes_before c b ≡ false → goes_before c a ≡ false
under a b c h i = grind (arith, nat_tests)

-- by the three tests
by_tests : (a b c : Entry) (ba cb ca : Bool) → (ba ≡ true → cb ≡ true → ca ≡ true) → (ba ≡ false → cb ≡ false → ca ≡ false) →
    goes_before b a ≡ ba → goes_before c b ≡ cb → goes_before c a ≡ ca →
    staler (staler (Some a) (Some b)) (Some c) ≡ staler (Some a) (staler (Some b) (Some c))
by_tests a b c true true ca o u p q r = grind (arith, o refl refl)
by_tests a b c true false ca o u p q r = grind arith
by_tests a b c false true ca o u p q r = grind arith
by_tests a b c false false ca o u p q r = grind (arith, u refl refl)

pub staler_joins : (o p q : Option Entry) → staler (staler o p) q ≡ staler o (staler p q)
staler_joins None p q = refl
staler_joins (Some a) None q = refl
staler_joins (Some a) (Some b) None = grind arith
staler_joins (Some a) (Some b) (Some c) =
    by_tests a b c (goes_before b a) (goes_before c b) (goes_before c a) (over a b c) (under a b c) refl refl refl

-- the first entry of what is left is one of the two that are compared
at_front : (d : Entry) (es : List Entry) (i : ℕ) → i < length es → stalest (drop i es) ≡ staler (candidate (get_or es i d)) (stalest (drop (suc i) es))
at_front d [] i h = absurd (omega arith)
at_front d (e ∷ es) zero h = refl
at_front d (e ∷ es) (suc i) h = at_front d es i (omega arith)

-- one entry more was compared
pub one_more : (d : Entry) (es : List Entry) (i : ℕ) (o p all : Option Entry) → i < length es → p ≡ staler o (candidate (get_or es i d)) →
    staler o (stalest (drop i es)) ≡ all → staler p (stalest (drop (i + 1) es)) ≡ all
one_more d es i o p all h is before =
    rw (add-one i) (ap (λ q. staler q (stalest (drop (suc i) es))) is ∙ (staler_joins o (candidate (get_or es i d)) (stalest (drop (suc i) es))
    ∙ (sym (ap (λ q. staler o q) (at_front d es i h)) ∙ before)))
