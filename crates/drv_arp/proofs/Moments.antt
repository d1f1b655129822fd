-- The moments of a request, one by one, and the lesser of three.
use Rattle.std.proofs.Common.{◌≡◌, ℕ, zero, suc, ◌-◌, ◌<◌, Bool, true, false, ◌==◌, ◌||◌, min, Option, Some, None, refl, sym, ap, ◌∙◌, arith}
use Rattle.drv_arp.specs.Asks.{moments, is_in, least, later_than, next_in}

-- where there is a moment left, it is the one in front
pub in_more : (m last gap n : ℕ) → 0 < n → is_in m (moments last gap n) ≡ (last == m || is_in m (moments (last - gap) gap (n - 1)))
in_more m last gap zero h = absurd (omega (arith, h))
in_more m last gap (suc n) h =
    let e : n ≡ suc n - 1 = omega arith in
    ap (λ k. last == m || is_in m (moments (last - gap) gap k)) e

pub next_more : (moment last gap n : ℕ) → 0 < n →
    next_in moment (moments last gap n) ≡ least (later_than moment last) (next_in moment (moments (last - gap) gap (n - 1)))
next_more moment last gap zero h = absurd (omega (arith, h))
next_more moment last gap (suc n) h =
    let e : n ≡ suc n - 1 = omega arith in
    ap (λ k. least (later_than moment last) (next_in moment (moments (last - gap) gap k))) e

-- of three moments it doesn't matter which two are compared first
pub least_joins : (a b c : Option ℕ) → least (least a b) c ≡ least a (least b c)
least_joins None b c = refl
least_joins (Some a) None c = refl
least_joins (Some a) (Some b) None = refl
least_joins (Some a) (Some b) (Some c) = let e : min (min a b) c ≡ min a (min b c) = omega arith in ap Some e

-- one step of the walk over the moments
pub in_step : (m last gap n : ℕ) (whole : Bool) → 0 < n → (last == m) ≡ false → is_in m (moments last gap n) ≡ whole →
    is_in m (moments (last - gap) gap (n - 1)) ≡ whole
in_step m last gap n whole h other is = ap (λ b. b || is_in m (moments (last - gap) gap (n - 1))) (sym other) ∙ sym (in_more m last gap n h) ∙ is

pub in_front : (m last gap n : ℕ) (whole : Bool) → 0 < n → (last == m) ≡ true → is_in m (moments last gap n) ≡ whole → true ≡ whole
in_front m last gap n whole h here is =
    ap (λ b. b || is_in m (moments (last - gap) gap (n - 1))) (sym here) ∙ sym (in_more m last gap n h) ∙ is

pub next_step : (moment last gap n : ℕ) (best more whole : Option ℕ) → 0 < n → more ≡ least best (later_than moment last) →
    least best (next_in moment (moments last gap n)) ≡ whole →
    least more (next_in moment (moments (last - gap) gap (n - 1))) ≡ whole
next_step moment last gap n best more whole h e is =
    ap (λ o. least o (next_in moment (moments (last - gap) gap (n - 1)))) e
    ∙ least_joins best (later_than moment last) (next_in moment (moments (last - gap) gap (n - 1)))
    ∙ ap (λ o. least best o) (sym (next_more moment last gap n h))
    ∙ is

pub least_none : (a : Option ℕ) → least a None ≡ a
least_none None = refl
least_none (Some a) = refl
