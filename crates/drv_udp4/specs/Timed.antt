-- The driver as a machine with moments: before the next one nothing is due.
use Rattle.std.specs.Prelude.{◌≡◌, refl, ℕ, ◌<◌, Bool, false, List, [], ◌∷◌, length, slice_get, Option, Some, None, IfSome}
use Rattle.std.specs.List.{position}
use Rattle.std.specs.Option.{option_and_then}
use Rattle.std.proofs.Common.{◌∙◌, ap, arith}
use Rattle.std.proofs.lemmas.Bool.Decides.{nat_tests}
use Rattle.efi_base.specs.declared.plain.Tick.{Tick}
use Rattle.efi_base.specs.declared.tokens.End.TheVariants.{ReceiveTimeout}
use Rattle.efi_book.specs.declared.ends.Pending.{Pending}
use Rattle.efi_book.specs.Books.{Tokens}
use Rattle.efi_book.specs.Firsts.{first_by}
use Rattle.efi_book.specs.Cores.{in_tokens}
use Rattle.efi_timer.specs.Ticking.{IsTimed}
use Rattle.drv_udp4.specs.declared.work.Ask.{Ask}
use Rattle.efi_book.specs.Rounds.{no_rounds}
use Rattle.drv_udp4.specs.Udps.{UdpState}
use Rattle.drv_udp4.specs.Ticks.{is_until, is_due, acted, at, moment_of, least, later_than, next_of_all, next_of}

-- what comes before the lesser of two moments comes before both
before_both : (a b : Option ℕ) (m : ℕ) → IfSome (least a b) (λ t. m < t) → IfSome a (λ t. m < t) × IfSome b (λ t. m < t)
before_both None b m h = (tt, h)
before_both (Some a) None m h = (h, tt)
before_both (Some a) (Some b) m h = (omega (arith, h), omega (arith, h))

after_least : (a b : Option ℕ) (m : ℕ) → IfSome a (λ t. m < t) → IfSome b (λ t. m < t) → IfSome (least a b) (λ t. m < t)
after_least None b m h i = i
after_least (Some a) None m h i = h
after_least (Some a) (Some b) m h i = omega (arith, h, i)

-- one moment: another that is before it isn't it, and it stays the next one
not_it : (moment m : ℕ) (o : Option Tick) → moment < m → IfSome (later_than moment o) (λ t. m < t) → is_until m o ≡ false
not_it moment m None up h = refl
not_it moment m (Some d) up h = grind (arith, nat_tests)

stays_next : (moment k : ℕ) (o : Option Tick) → moment < k → IfSome (later_than moment o) (λ t. k < t) → later_than k o ≡ later_than moment o
stays_next moment k None up h = refl
stays_next moment k (Some d) up h = grind (arith, nat_tests)

is_later : (moment : ℕ) (o : Option Tick) → IfSome (later_than moment o) (λ t. moment < t)
is_later moment None = tt
is_later moment (Some d) = grind (arith, nat_tests)

-- a test that nothing passes finds nothing
left_out : (test : Pending Ask → Bool) (p : Pending Ask) (ps : List (Pending Ask)) → test p ≡ false → position test ps ≡ None → position test (p ∷ ps) ≡ None
left_out test p ps h i = grind (arith, h, i)

none_due : (moment m : ℕ) (ps : List (Pending Ask)) → moment < m → IfSome (next_of_all moment ps) (λ t. m < t) → position (is_due m) ps ≡ None
none_due moment m [] up h = refl
none_due moment m (p ∷ ps) up h =
    let halves = before_both (later_than moment p.work.until) (next_of_all moment ps) m h in
    left_out (is_due m) p ps (not_it moment m p.work.until up halves.0) (none_due moment m ps up halves.1)

all_stay : (moment k : ℕ) (ps : List (Pending Ask)) → moment < k → IfSome (next_of_all moment ps) (λ t. k < t) →
    next_of_all k ps ≡ next_of_all moment ps
all_stay moment k [] up h = refl
all_stay moment k (p ∷ ps) up h =
    let halves = before_both (later_than moment p.work.until) (next_of_all moment ps) k h in
    ap (λ o. least o (next_of_all k ps)) (stays_next moment k p.work.until up halves.0)
    ∙ ap (λ o. least (later_than moment p.work.until) o) (all_stay moment k ps up halves.1)

all_later : (moment : ℕ) (ps : List (Pending Ask)) → IfSome (next_of_all moment ps) (λ t. moment < t)
all_later moment [] = tt
all_later moment (p ∷ ps) =
    after_least (later_than moment p.work.until) (next_of_all moment ps) moment (is_later moment p.work.until) (all_later moment ps)

nowhere : (test : Pending Ask → Bool) (ps : List (Pending Ask)) → position test ps ≡ None → first_by test ps ≡ None
nowhere test ps h = ap (option_and_then (λ (k : ℕ). slice_get ps k)) h

-- every state is as good as another
abbrev pub IsAny : UdpState → Type 0
IsAny s = Unit {0}

-- before the next moment nothing is due
quiet : (s : UdpState) (m : ℕ) → moment_of s < m → IfSome (next_of s) (λ t. m < t) → acted m s ≡ at m s
quiet s m up h =
    let ps = s.drive.tokens.pending in
    ap
    (λ (ts : Tokens Ask). record { drive = in_tokens s.drive ts; seed = s.seed; tried = s.tried; home = s.home; routes = s.routes; moment = record { 0 = m } })
    (no_rounds (is_due m) ReceiveTimeout (length ps) s.drive.tokens (nowhere (is_due m) ps (none_due s.moment.0 m ps up h)))

pub udp_is_timed : IsTimed moment_of acted at next_of IsAny
udp_is_timed = record {
  acted = λ m s. refl;
  placed = λ m s. refl;
  act_at = λ m k s. refl;
  at_at = λ m k s. refl;
  at_same = λ s good. refl;
  good_at = λ m s good. tt;
  quiet = λ s m good up h. quiet s m up h;
  next_at = λ s k good up h. all_stay s.moment.0 k s.drive.tokens.pending up h;
  later = λ s good. all_later s.moment.0 s.drive.tokens.pending;
}
