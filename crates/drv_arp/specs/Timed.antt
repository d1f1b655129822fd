-- The driver as a machine with moments: before the next one nothing is due.
use Rattle.std.specs.Prelude.{◌≡◌, refl, ℕ, ◌<◌, Bool, true, false, ◌==◌, ◌||◌, List, [], ◌∷◌, filter_map, Option, Some, None, IfSome}
use Rattle.std.proofs.Common.{◌∙◌, ap, arith}
use Rattle.std.proofs.lemmas.Bool.Decides.{nat_tests}
use Rattle.efi_book.specs.declared.ends.Pending.{Pending}
use Rattle.efi_timer.specs.Ticking.{IsTimed}
use Rattle.drv_arp.specs.declared.asks.Ask.{Ask}
use Rattle.drv_arp.specs.declared.told.Told.{Told}
use Rattle.drv_arp.specs.Asks.{is_in, is_due, table, least, later_than, next_in, next_of_ask}
use Rattle.drv_arp.specs.Arps.{ArpState, in_drive}
use Rattle.drv_arp.specs.Ticks.{due_of, all_done, acted, at, moment_of, next_of_all, next_of}

-- what comes before the lesser of two moments comes before both
pub before_both : (a b : Option ℕ) (m : ℕ) → IfSome (least a b) (λ t. m < t) → IfSome a (λ t. m < t) × IfSome b (λ t. m < t)
before_both None b m h = (tt, h)
before_both (Some a) None m h = (h, tt)
before_both (Some a) (Some b) m h = (omega (arith, h), omega (arith, h))

pub after_least : (a b : Option ℕ) (m : ℕ) → IfSome a (λ t. m < t) → IfSome b (λ t. m < t) → IfSome (least a b) (λ t. m < t)
after_least None b m h i = i
after_least (Some a) None m h i = h
after_least (Some a) (Some b) m h i = omega (arith, h, i)

-- one moment: another that is before it isn't it, and it stays the next one
not_it : (moment m d : ℕ) → moment < m → IfSome (later_than moment d) (λ t. m < t) → (d == m) ≡ false
not_it moment m d up h = grind (arith, nat_tests)

stays_next : (moment k d : ℕ) → moment < k → IfSome (later_than moment d) (λ t. k < t) → later_than k d ≡ later_than moment d
stays_next moment k d up h = grind (arith, nat_tests)

is_later : (moment d : ℕ) → IfSome (later_than moment d) (λ t. moment < t)
is_later moment d = grind (arith, nat_tests)

or_both : (a b : Bool) → a ≡ false → b ≡ false → (a || b) ≡ false
or_both true b h i = h
or_both false b h i = i

-- some moments
quiet_in : (moment m : ℕ) (ds : List ℕ) → moment < m → IfSome (next_in moment ds) (λ t. m < t) → is_in m ds ≡ false
quiet_in moment m [] up h = refl
quiet_in moment m (d ∷ ds) up h =
    let halves = before_both (later_than moment d) (next_in moment ds) m h in
    or_both (d == m) (is_in m ds) (not_it moment m d up halves.0) (quiet_in moment m ds up halves.1)

next_stays : (moment k : ℕ) (ds : List ℕ) → moment < k → IfSome (next_in moment ds) (λ t. k < t) → next_in k ds ≡ next_in moment ds
next_stays moment k [] up h = refl
next_stays moment k (d ∷ ds) up h =
    let halves = before_both (later_than moment d) (next_in moment ds) k h in
    ap (λ o. least o (next_in k ds)) (stays_next moment k d up halves.0)
    ∙ ap (λ o. least (later_than moment d) o) (next_stays moment k ds up halves.1)

next_later : (moment : ℕ) (ds : List ℕ) → IfSome (next_in moment ds) (λ t. moment < t)
next_later moment [] = tt
next_later moment (d ∷ ds) = after_least (later_than moment d) (next_in moment ds) moment (is_later moment d) (next_later moment ds)

-- some requests
left_out : (m : ℕ) (p : Pending Ask) (ps : List (Pending Ask)) (b : Bool) → is_due m p.work ≡ b → b ≡ false →
    filter_map (due_of m) (p ∷ ps) ≡ filter_map (due_of m) ps
left_out m p ps true e h = absurd (cc)
left_out m p ps false e h = grind (arith, e)

pub none_due : (moment m : ℕ) (ps : List (Pending Ask)) → moment < m → IfSome (next_of_all moment ps) (λ t. m < t) →
    filter_map (due_of m) ps ≡ []
none_due moment m [] up h = refl
none_due moment m (p ∷ ps) up h =
    let halves = before_both (next_of_ask moment p.work) (next_of_all moment ps) m h in
    left_out m p ps (is_due m p.work) refl (quiet_in moment m (table p.work) up halves.0) ∙ none_due moment m ps up halves.1

pub all_stay : (moment k : ℕ) (ps : List (Pending Ask)) → moment < k → IfSome (next_of_all moment ps) (λ t. k < t) →
    next_of_all k ps ≡ next_of_all moment ps
all_stay moment k [] up h = refl
all_stay moment k (p ∷ ps) up h =
    let halves = before_both (next_of_ask moment p.work) (next_of_all moment ps) k h in
    ap (λ o. least o (next_of_all k ps)) (next_stays moment k (table p.work) up halves.0)
    ∙ ap (λ o. least (next_of_ask moment p.work) o) (all_stay moment k ps up halves.1)

pub all_later : (moment : ℕ) (ps : List (Pending Ask)) → IfSome (next_of_all moment ps) (λ t. moment < t)
all_later moment [] = tt
all_later moment (p ∷ ps) =
    after_least (next_of_ask moment p.work) (next_of_all moment ps) moment (next_later moment (table p.work)) (all_later moment ps)

-- every state is as good as another
abbrev pub IsAny : ArpState → Type 0
IsAny s = Unit {0}

-- before the next moment nothing is due
pub quiet : (s : ArpState) (m : ℕ) → moment_of s < m → IfSome (next_of s) (λ t. m < t) → acted m s ≡ at m s
quiet s m up h =
    ap (λ (ts : List Told). in_drive (at m s) (all_done m s.mac s.drive ts)) (none_due s.moment.0 m s.drive.tokens.pending up h)

pub arp_is_timed : IsTimed moment_of acted at next_of IsAny
arp_is_timed = record {
  acted = λ m s. refl;
  placed = λ m s. refl;
  act_at = λ m k s. refl;
  at_at = λ m k s. refl;
  at_same = λ s good. refl;
  good_at = λ m s good. tt;
  quiet = λ s m good up h. quiet s m up h;
  next_at = λ s k good up h. all_stay s.moment.0 k s.drive.tokens.pending up h;
  later = λ s good. all_later s.moment.0 s.drive.tokens.pending;
}
