-- Of three timers it doesn't matter which two are compared first.
use Rattle.std.proofs.Common.{◌≡◌, Bool, true, false, Option, Some, None, refl, arith}
use Rattle.std.proofs.lemmas.Bool.Decides.{nat_tests}
use Rattle.efi_timer.specs.declared.timers.Timer.{Timer}
use Rattle.efi_timer.specs.Moments.{comes_before, earlier}

-- what follows what comes before
over : (a b c : Timer) → comes_before b a ≡ true → comes_before c b ≡ true → comes_before c a ≡ true
over a b c h i = grind (arith, nat_tests)

under : (a b c : Timer) → comes_before b a ≡ false → comes_before c b ≡ false → comes_before c a ≡ false
under a b c h i = grind (arith, nat_tests)

-- by the three tests
by_tests : (a b c : Timer) (ba cb ca : Bool) → (ba ≡ true → cb ≡ true → ca ≡ true) → (ba ≡ false → cb ≡ false → ca ≡ false) →
    comes_before b a ≡ ba → comes_before c b ≡ cb → comes_before c a ≡ ca →
    earlier (earlier (Some a) (Some b)) (Some c) ≡ earlier (Some a) (earlier (Some b) (Some c))
by_tests a b c true true ca o u p q r = grind (arith, o refl refl)
by_tests a b c true false ca o u p q r = grind arith
by_tests a b c false true ca o u p q r = grind arith
by_tests a b c false false ca o u p q r = grind (arith, u refl refl)

pub earlier_joins : (o : Option Timer) (b : Timer) (p : Option Timer) → earlier (earlier o (Some b)) p ≡ earlier o (earlier (Some b) p)
earlier_joins None b p = refl
earlier_joins (Some a) b None = grind arith
earlier_joins (Some a) b (Some c) =
    by_tests a b c (comes_before b a) (comes_before c b) (comes_before c a) (over a b c) (under a b c) refl refl refl
