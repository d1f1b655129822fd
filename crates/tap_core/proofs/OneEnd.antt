-- A download ends in one way.
use Rattle.std.proofs.Common.{◌≡◌, ℕ, Bool, List, [], ◌∷◌, ◌++◌, fold, Option, Some, refl, sym, ap, subst, ◌∙◌, arith}
use Rattle.wire_l4.specs.Segment.{Segment}
use Rattle.tcp_recv.specs.Stream.{Board, front, is_over}
use Rattle.load_core.specs.Cases.{order}
use Rattle.load_core.proofs.CaseLaws.{case-one}
use Rattle.efi_base.specs.declared.load_end.LoadEnd.{LoadEnd}
use Rattle.efi_base.specs.declared.load_end.LoadEnd.TheVariants.{Success}
use Rattle.tap_core.specs.Connections.{after_heard, is_reset_at}
use Rattle.tap_core.specs.Ends.{MeetsOf, IsFirstEnd, MeetNothing}
use Rattle.tap_core.proofs.Splits.{cons-head, cons-tail}

-- success is the first case wherever it is met
pub success-first : (most : ℕ) (board : Board) (reset : Bool) (n : ℕ) (b : LoadEnd) → MeetsOf most board reset (Success n) → IsFirstEnd most board reset (Some b) → b ≡ Success n
success-first most board reset n b x y =
    let low = y.1 (Success n) x in
    let same : order (Success n) ≡ order b = omega (arith, low) in
    sym (case-one most (front board.kept) (is_over board) reset (Success n) b x y.0 same)

-- the first case is one
pub end-one : (most : ℕ) (board : Board) (reset : Bool) (a b : LoadEnd) → IsFirstEnd most board reset (Some a) → IsFirstEnd most board reset (Some b) → a ≡ b
end-one most board reset a b x y =
    let low = x.1 b y.0 in
    let high = y.1 a x.0 in
    let same : order b ≡ order a = omega (arith, low, high) in
    case-one most (front board.kept) (is_over board) reset a b x.0 y.0 (sym same)

-- a record meets some case
abbrev pub MeetsAt : ℕ → ℕ → Board → Option Segment → Type 0
MeetsAt most irs board h = (case : LoadEnd) × MeetsOf most (after_heard irs board h) (is_reset_at irs board h) case

-- two places behind records that meet nothing, at which a case is met
pub ends-split : (most irs : ℕ) (board : Board) (b c : List (Option Segment)) (x y : Option Segment) (r s : List (Option Segment))
    → MeetNothing most irs board b → MeetNothing most irs board c → MeetsAt most irs (fold (after_heard irs) board b) x
    → MeetsAt most irs (fold (after_heard irs) board c) y → b ++ x ∷ r ≡ c ++ y ∷ s → (b ≡ c) × (x ≡ y)
ends-split most irs board [] [] x y r s nb nc mx my e = (refl, cons-head x y r s e)
ends-split most irs board [] (k ∷ c) x y r s nb nc mx my e =
    let m = subst (MeetsAt most irs board) (cons-head x k r (c ++ y ∷ s) e) mx in absurd (nc.0 m.0 m.1)
ends-split most irs board (k ∷ b) [] x y r s nb nc mx my e =
    let m = subst (MeetsAt most irs board) (sym (cons-head k y (b ++ x ∷ r) s e)) my in absurd (nb.0 m.0 m.1)
ends-split most irs board (k ∷ b) (l ∷ c) x y r s nb nc mx my e =
    let head = cons-head k l (b ++ x ∷ r) (c ++ y ∷ s) e in
    let nothing = subst (λ z. MeetNothing most irs (after_heard irs board z) c) (sym head) nc.1 in
    let meets = subst (λ z. MeetsAt most irs (fold (after_heard irs) (after_heard irs board z) c) y) (sym head) my in
    let more = ends-split most irs (after_heard irs board k) b c x y r s nb.1 nothing mx meets (cons-tail k l (b ++ x ∷ r) (c ++ y ∷ s) e) in
    (ap (λ z. z ∷ b) head ∙ ap (λ z. l ∷ z) more.0, more.1)

-- records that meet nothing have no such place
pub nothing-meets : (most irs : ℕ) (board : Board) (b : List (Option Segment)) (x : Option Segment) (r : List (Option Segment))
    → MeetNothing most irs board (b ++ x ∷ r) → MeetsAt most irs (fold (after_heard irs) board b) x → ⊥
nothing-meets most irs board [] x r none m = none.0 m.0 m.1
nothing-meets most irs board (k ∷ b) x r none m = nothing-meets most irs (after_heard irs board k) b x r none.1 m
