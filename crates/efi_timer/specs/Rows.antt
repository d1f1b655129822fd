-- Timers as rows of a table of ticks: which rows there are after each call, and that the soonest one depends on nothing
-- else.
use Rattle.std.specs.Prelude.{◌≡◌, refl, ℕ, ◌≤◌, Bool, true, false, ◌==◌, ◌&&◌, ◌||◌, List, [], ◌∷◌, ◌++◌, filter, Option, Some, None, option_map, cond}
use Rattle.std.proofs.Common.{sym, ◌∙◌, ap, subst, arith}
use Rattle.std.proofs.lemmas.Bool.Decides.{nat_tests}
use Rattle.efi_base.specs.declared.plain.Tick.{Tick}
use Rattle.efi_timer.specs.declared.timers.Timer.{Timer}
use Rattle.efi_timer.specs.Moments.{comes_before, earlier, soonest, is_other, set_to}

abbrev pub is_row : ℕ → ℕ → Timer → Bool
is_row id at t = t.id == id && t.at.0 == at

-- the number has this moment
abbrev pub has : List Timer → ℕ → ℕ → Bool
has [] id at = false
has (t ∷ ts) id at = is_row id at t || has ts id at

-- the timers have the rows of the table, and no others
abbrev pub AreRows : List Timer → (ℕ → ℕ → Bool) → Type 0
AreRows ts rows = (id at : ℕ) → has ts id at ≡ rows id at

-- a table in which the number has this moment alone
abbrev pub with_row : (ℕ → ℕ → Bool) → ℕ → ℕ → ℕ → ℕ → Bool
with_row rows i m id at = cond (id == i) (at == m) (rows id at)

-- a table in which the number has none
abbrev pub without_row : (ℕ → ℕ → Bool) → ℕ → ℕ → ℕ → Bool
without_row rows i id at = cond (id == i) false (rows id at)

cleared-step : (t : Timer) (ts : List Timer) (i id at : ℕ) (b : Bool) → (t.id == i) ≡ b → has (filter (is_other i) ts) id at ≡ cond (id == i) false (has ts id at)
    → has (filter (is_other i) (t ∷ ts)) id at ≡ cond (id == i) false (has (t ∷ ts) id at)
cleared-step t ts i id at true e h = grind (arith, nat_tests)
cleared-step t ts i id at false e h = grind (arith, nat_tests)

-- what `clear` and `due` leave
pub cleared : (ts : List Timer) (i id at : ℕ) → has (filter (is_other i) ts) id at ≡ cond (id == i) false (has ts id at)
cleared [] i id at = grind (arith, nat_tests)
cleared (t ∷ ts) i id at = cleared-step t ts i id at (t.id == i) refl (cleared ts i id at)

has-more : (ts us : List Timer) (id at : ℕ) → has (ts ++ us) id at ≡ (has ts id at || has us id at)
has-more [] us id at = refl
has-more (t ∷ ts) us id at = ap (λ b. is_row id at t || b) (has-more ts us id at) ∙ grind arith

set-step : (i m id at : ℕ) (b : Bool) → (cond (id == i) false b || (i == id && m == at || false)) ≡ cond (id == i) (at == m) b
set-step i m id at b = grind (arith, nat_tests)

-- what `set` leaves
pub set_rows : (ts : List Timer) (i : ℕ) (m : Tick) (id at : ℕ) → has (set_to ts i m) id at ≡ cond (id == i) (at == m.0) (has ts id at)
set_rows ts i m id at =
    has-more (filter (is_other i) ts) (record { id = i; at = m } ∷ []) id at
    ∙ ap (λ b. b || (i == id && m.0 == at || false)) (cleared ts i id at)
    ∙ set-step i m.0 id at (has ts id at)

-- so the rows follow the table
pub rows_set : (ts : List Timer) (rows : ℕ → ℕ → Bool) (i : ℕ) (m : Tick) → AreRows ts rows → AreRows (set_to ts i m) (with_row rows i m.0)
rows_set ts rows i m h = λ id at. set_rows ts i m id at ∙ ap (λ b. cond (id == i) (at == m.0) b) (h id at)

pub rows_cleared : (ts : List Timer) (rows : ℕ → ℕ → Bool) (i : ℕ) → AreRows ts rows → AreRows (filter (is_other i) ts) (without_row rows i)
rows_cleared ts rows i h = λ id at. cleared ts i id at ∙ ap (λ b. cond (id == i) false b) (h id at)

-- a moment is the next one of a table: the least that has a row, and none where there is no row
abbrev pub IsNext : (ℕ → ℕ → Bool) → Option ℕ → Type 0
IsNext rows None = (id at : ℕ) → rows id at ≡ false
IsNext rows (Some m) = ((id : ℕ) × (rows id m ≡ true)) × ((id at : ℕ) → rows id at ≡ true → m ≤ at)

-- this timer is the soonest of a table: it has a row, and no row comes before it
pub record IsSoonest (rows : ℕ → ℕ → Bool) (t : Timer) : Type 0 where
  pub there : rows t.id t.at.0 ≡ true
  pub first : (u : Timer) → rows u.id u.at.0 ≡ true → comes_before u t ≡ false

never-first : (t u : Timer) → is_row u.id u.at.0 t ≡ true → comes_before u t ≡ false
never-first t u h = grind (arith, nat_tests)

after-first : (s t u : Timer) → comes_before s t ≡ true → is_row u.id u.at.0 t ≡ true → comes_before u s ≡ false
after-first s t u h i = grind (arith, nat_tests)

not-before : (s t u : Timer) → comes_before s t ≡ false → comes_before u s ≡ false → comes_before u t ≡ false
not-before s t u h i = grind (arith, nat_tests)

itself : (t : Timer) → is_row t.id t.at.0 t ≡ true
itself t = grind (arith, nat_tests)

or-left : (a b : Bool) → a ≡ true → (a || b) ≡ true
or-left true b h = refl
or-left false b h = absurd (cc)

or-right : (a b : Bool) → b ≡ true → (a || b) ≡ true
or-right true b h = refl
or-right false b h = h

by-or : {P : Type 0} (a b : Bool) → (a || b) ≡ true → (a ≡ true → P) → (b ≡ true → P) → P
by-or true b h f g = f refl
by-or false b h f g = g h

no-soonest : (t : Timer) (o : Option Timer) → earlier (Some t) o ≡ None → ⊥
no-soonest t None e = absurd (cc)
no-soonest t (Some s) e = picked (comes_before s t) refl e
  where
    picked : (b : Bool) → comes_before s t ≡ b → earlier (Some t) (Some s) ≡ None → ⊥
    picked true h e = absurd (grind arith)
    picked false h e = absurd (grind arith)

no-rows : (ts : List Timer) → soonest ts ≡ None → (id at : ℕ) → has ts id at ≡ false
no-rows [] e id at = refl
no-rows (t ∷ ts) e id at = absurd (no-soonest t (soonest ts) e)

soonest-step : (t : Timer) (ts : List Timer) (o : Option Timer) (b : Bool) (s r : Timer) → o ≡ Some s → comes_before s t ≡ b → IsSoonest (has ts) s
    → earlier (Some t) (Some s) ≡ Some r → IsSoonest (has (t ∷ ts)) r
soonest-step t ts o true s r f h ih e =
    let is : s ≡ r = grind arith in
    subst (λ x. IsSoonest (has (t ∷ ts)) x) is (record {
      there = or-right (is_row s.id s.at.0 t) (has ts s.id s.at.0) ih.there;
      first = λ u i. by-or (is_row u.id u.at.0 t) (has ts u.id u.at.0) i (after-first s t u h) (ih.first u);
    })
soonest-step t ts o false s r f h ih e =
    let is : t ≡ r = grind arith in
    subst (λ x. IsSoonest (has (t ∷ ts)) x) is (record {
      there = or-left (is_row t.id t.at.0 t) (has ts t.id t.at.0) (itself t);
      first = λ u i. by-or (is_row u.id u.at.0 t) (has ts u.id u.at.0) i (never-first t u) (λ k. not-before s t u h (ih.first u k));
    })

soonest-cases : (t : Timer) (ts : List Timer) (o : Option Timer) (r : Timer) → soonest ts ≡ o → ((s : Timer) → soonest ts ≡ Some s → IsSoonest (has ts) s)
    → earlier (Some t) o ≡ Some r → IsSoonest (has (t ∷ ts)) r
soonest-cases t ts None r f ih e =
    let is : t ≡ r = cc in
    let none = no-rows ts f in
    subst (λ x. IsSoonest (has (t ∷ ts)) x) is (record {
      there = or-left (is_row t.id t.at.0 t) (has ts t.id t.at.0) (itself t);
      first = λ u i. by-or (is_row u.id u.at.0 t) (has ts u.id u.at.0) i (never-first t u) (λ k. absurd (false-true (sym (none u.id u.at.0) ∙ k)));
    })
  where
    false-true : false ≡ true → ⊥
    false-true h = absurd (cc)
soonest-cases t ts (Some s) r f ih e = soonest-step t ts (Some s) (comes_before s t) s r refl refl (ih s f) e

-- the soonest timer comes before all rows
pub soonest_first : (ts : List Timer) (r : Timer) → soonest ts ≡ Some r → IsSoonest (has ts) r
soonest_first [] r e = absurd (cc)
soonest_first (t ∷ ts) r e = soonest-cases t ts (soonest ts) r refl (soonest_first ts) e

row-later : (t : Timer) (id at : ℕ) → comes_before (record { id = id; at = record { 0 = at } }) t ≡ false → t.at.0 ≤ at
row-later t id at h = grind (arith, nat_tests)

nexts : (ts : List Timer) (o : Option Timer) → soonest ts ≡ o → IsNext (has ts) (option_map (λ (t : Timer). t.at.0) o)
nexts ts None e = no-rows ts e
nexts ts (Some t) e =
    let it = soonest_first ts t e in
    ((t.id, it.there), λ id at h. row-later t id at (it.first (record { id = id; at = record { 0 = at } }) h))

-- what `next` gives is the next moment of the timers' own table
pub next_is_least : (ts : List Timer) → IsNext (has ts) (option_map (λ (t : Timer). t.at.0) (soonest ts))
next_is_least ts = nexts ts (soonest ts) refl

-- a table has one next moment, so timers that have a driver's rows give that of its table
pub next_unique : (rows more : ℕ → ℕ → Bool) (o p : Option ℕ) → ((id at : ℕ) → rows id at ≡ more id at) → IsNext rows o → IsNext more p → o ≡ p
next_unique rows more None None same h i = refl
next_unique rows more None (Some m) same h i = absurd (both (sym (h i.0.0 m) ∙ same i.0.0 m ∙ i.0.1))
  where
    both : false ≡ true → ⊥
    both e = absurd (cc)
next_unique rows more (Some n) None same h i = absurd (both (sym (i h.0.0 n) ∙ sym (same h.0.0 n) ∙ h.0.1))
  where
    both : false ≡ true → ⊥
    both e = absurd (cc)
next_unique rows more (Some n) (Some m) same h i =
    let a : m ≤ n = i.1 h.0.0 n (sym (same h.0.0 n) ∙ h.0.1) in
    let b : n ≤ m = h.1 i.0.0 m (same i.0.0 m ∙ i.0.1) in
    let e : n ≡ m = omega (arith, a, b) in
    ap Some e
