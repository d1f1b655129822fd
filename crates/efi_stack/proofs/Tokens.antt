-- Each token once, over any list of events.
use Rattle.std.proofs.Common.{◌≡◌, ℕ, ◌+◌, ◌≤◌, zero, suc, Bool, true, false, ◌==◌, List, [], ◌∷◌, Option, Some, None, refl, sym, ap, ◌∙◌, subst, arith}
use Rattle.std.proofs.lemmas.Bool.Decides.{nat_tests}
use Rattle.efi_base.specs.declared.plain.Mac.{Mac}
use Rattle.efi_stack.specs.declared.any.Call.{Call}
use Rattle.efi_stack.specs.declared.any.Answer.{Answer}
use Rattle.efi_stack.specs.declared.any.Answer.TheVariants.{Done, Found, Made, Posted, Refused}
use Rattle.efi_stack.specs.declared.stack.Stack.{Stack}
use Rattle.efi_stack.specs.Answering.{came}
use Rattle.efi_stack.specs.Stacks.{new_stack, owned}
use Rattle.efi_stack.specs.Traces.{Event, Called, Heard, Ticked, Polled, Took, IsStep, Numbers, CountsOn, Runs, takes_in, gives_back, given_back, once, users}

-- the numbers of one step
kept : (n next later : ℕ) → 1 ≤ next → later ≡ next → (1 ≤ later) × (once n next + 0 ≡ once n later)
kept n next later up h =
    let same : once n later ≡ once n next = ap (once n) h in
    (omega (arith, up, h), omega (arith, same))

called : (n next later : ℕ) (a : Answer) → 1 ≤ next → Numbers next a later → (1 ≤ later) × (once n next + came (users n) a ≡ once n later)
called n next later (Posted t) up h =
    let here : (t.0 == n) ≡ (next == n) = ap (λ k. k == n) h.0 in
    (omega (arith, up, h.1), grind (arith, nat_tests, h.0, h.1))
called n next later Done up h = kept n next later up h
called n next later (Found mac) up h = kept n next later up h
called n next later (Made x) up h = kept n next later up h
called n next later (Refused why w) up h = kept n next later up h

counted : (n next later : ℕ) (e : Event) → 1 ≤ next → CountsOn next e later → (1 ≤ later) × (once n next + takes_in (users n) e ≡ once n later)
counted n next later (Called c a) up h = called n next later a up h
counted n next later (Heard bytes) up h = kept n next later up h
counted n next later (Ticked now) up h = kept n next later up h
counted n next later Polled up h = kept n next later up h
counted n next later (Took f) up h = kept n next later up h

joins : (mid gives old takes given before after : ℕ) → mid + gives ≡ old + takes → old + given ≡ before → before + takes ≡ after → mid + (given + gives) ≡ after
joins mid gives old takes given before after e f g = omega (arith, e, f, g)

adds : (a b c d : ℕ) → a + (b + c + d) ≡ a + (b + (c + d))
adds a b c d = omega arith

runs-once : (n given : ℕ) (es : List Event) (s later : Stack) → 1 ≤ s.next → owned (users n) s + given ≡ once n s.next → Runs s es later
    → owned (users n) later + (given + given_back n es) ≡ once n later.next
runs-once n given [] s later up h r =
    let same : owned (users n) later + (given + 0) ≡ owned (users n) s + given = ap (λ t. owned (users n) t + (given + 0)) r ∙ ap (λ k. owned (users n) s + k) (omega arith) in
    same ∙ h ∙ ap (λ t. once n t.next) (sym r)
runs-once n given (e ∷ es) s later up h r =
    let mid = r.0 in
    let step = r.1 in
    let c = counted n s.next mid.next e up step.numbers in
    let now = joins (owned (users n) mid) (gives_back (users n) e) (owned (users n) s) (takes_in (users n) e) given (once n s.next) (once n mid.next) (step.tokens (users n)) h c.1 in
    sym (adds (owned (users n) later) given (gives_back (users n) e) (given_back n es)) ∙ runs-once n (given + gives_back (users n) e) es mid later c.0 now r.2

none-at-first : (n : ℕ) → once n 1 ≡ 0
none-at-first zero = refl
none-at-first (suc n) = grind (arith, nat_tests)

pub all-once : (mac : Mac) (events : List Event) (later : Stack) → Runs (new_stack mac) events later → (n : ℕ)
    → owned (users n) later + given_back n events ≡ once n later.next
all-once mac events later r n =
    let from : owned (users n) later + given_back n events ≡ owned (users n) later + (0 + given_back n events) = omega arith in
    from ∙ runs-once n 0 events (new_stack mac) later (omega arith) (sym (none-at-first n)) r
