-- The entry that goes first in a full cache.
use Rattle.std.proofs.lemmas.Bool.Decides.{nat_tests}
use Rattle.arp_cache.proofs.Orders.{under}
use Rattle.std.proofs.Common.{ℕ, zero, suc, ◌<◌, length, get_or, ◌≡◌, Bool, true, false, List, [], ◌∷◌, Option, Some, None, refl, arith}
use Rattle.arp_cache.specs.declared.entry.Entry.{Entry}
use Rattle.arp_cache.specs.Entries.{stalest, staler, candidate, goes_before}

at_unfixed : (x e : Entry) (o : Option Entry) (b : Bool) → x.fixed ≡ b → (o ≡ Some e → e.fixed ≡ false) → staler (candidate x) o ≡ Some e → e.fixed ≡ false
at_unfixed x e o true f rest h = grind arith
at_unfixed x e None false f rest h = grind arith
at_unfixed x e (Some y) false f rest h = grind arith

pub unfixed : (es : List Entry) (e : Entry) → stalest es ≡ Some e → e.fixed ≡ false
unfixed [] e h = grind arith
unfixed (x ∷ es) e h = at_unfixed x e (stalest es) x.fixed refl (unfixed es e) h

-- where none goes first all are fixed
fixed_at : (x : Entry) (o : Option Entry) (b : Bool) → x.fixed ≡ b → staler (candidate x) o ≡ None → (x.fixed ≡ true) × (o ≡ None)
fixed_at x None true f h = (f, refl)
fixed_at x (Some y) true f h = grind arith
fixed_at x None false f h = grind arith
fixed_at x (Some y) false f h = grind arith

all_fixed : (es : List Entry) (d : Entry) (i : ℕ) → stalest es ≡ None → i < length es → (get_or es i d).fixed ≡ true
all_fixed [] d i h l = absurd (omega arith)
all_fixed (x ∷ es) d zero h l = (fixed_at x (stalest es) x.fixed refl h).0
all_fixed (x ∷ es) d (suc i) h l = all_fixed es d i (fixed_at x (stalest es) x.fixed refl h).1 (omega arith)

front_by : (x e y : Entry) (b : Bool) → goes_before y x ≡ b → x.fixed ≡ false → staler (candidate x) (Some y) ≡ Some e → goes_before x e ≡ false
front_by x e y true t f h = grind (arith, nat_tests)
front_by x e y false t f h = grind (arith, nat_tests)

-- the front entry doesn't go before the one that goes first
front : (x e : Entry) (o : Option Entry) → x.fixed ≡ false → staler (candidate x) o ≡ Some e → goes_before x e ≡ false
front x e None f h = grind (arith, nat_tests)
front x e (Some y) f h = front_by x e y (goes_before y x) refl f h

-- nor does one behind it
behind : (x e other y : Entry) (b c : Bool) → x.fixed ≡ b → goes_before y x ≡ c → goes_before other y ≡ false → staler (candidate x) (Some y) ≡ Some e →
    goes_before other e ≡ false
behind x e other y true c f t g h = grind arith
behind x e other y false true f t g h = grind arith
behind x e other y false false f t g h = grind (arith, under x y other t g)

behind_by : (x e : Entry) (es : List Entry) (d : Entry) (i : ℕ) (o : Option Entry) → stalest es ≡ o → i < length es → (get_or es i d).fixed ≡ false →
    ((y : Entry) → stalest es ≡ Some y → goes_before (get_or es i d) y ≡ false) → staler (candidate x) o ≡ Some e → goes_before (get_or es i d) e ≡ false
behind_by x e es d i None s l f rest h = grind (arith, all_fixed es d i s l)
behind_by x e es d i (Some y) s l f rest h = behind x e (get_or es i d) y x.fixed (goes_before y x) refl refl (rest y s) h

pub none_before : (es : List Entry) (e d : Entry) (i : ℕ) → stalest es ≡ Some e → i < length es → (get_or es i d).fixed ≡ false →
    goes_before (get_or es i d) e ≡ false
none_before [] e d i h l f = absurd (omega arith)
none_before (x ∷ es) e d zero h l f = front x e (stalest es) f h
none_before (x ∷ es) e d (suc i) h l f =
    behind_by x e es d i (stalest es) refl (omega arith) f (λ y s. none_before es y d i s (omega arith) f) h
