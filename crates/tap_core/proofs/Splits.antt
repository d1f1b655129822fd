-- A list is split in one way at its first element of a kind, and so a capture has one opening and one connection.
use Rattle.std.proofs.Common.{◌≡◌, ℕ, ◌+◌, suc, Bool, false, List, [], ◌∷◌, ◌++◌, length, All, Option, Some, None, IsTrue, refl, sym, ap, subst, ◌∙◌}
use Rattle.std.proofs.lemmas.List.Elements.{All-head, All-tail}
use Rattle.efi_base.specs.declared.plain.Record.{Record}
use Rattle.wire_l4.specs.Segment.{Segment}
use Rattle.tap_core.specs.Connections.{Connects, accepts_at}
use Rattle.tap_core.specs.Openings.{Opening, openings_of, IsFirstAt}
use Rattle.tap_core.specs.Shows.{heard_behind, HasConnection}

pub cons-head : {A : Type 0} (x y : A) (r s : List A) → x ∷ r ≡ y ∷ s → x ≡ y
cons-head x y r s e = cc

pub cons-tail : {A : Type 0} (x y : A) (r s : List A) → x ∷ r ≡ y ∷ s → r ≡ s
cons-tail x y r s e = cc

-- two splits of a list, each behind elements that aren't of the kind
first-split : {A : Type 0} (Is Isnt : A → Type 0) → ((a : A) → Is a → Isnt a → ⊥) → (b c : List A) (x y : A) (r s : List A) → All Isnt b → All Isnt c
    → Is x → Is y → b ++ x ∷ r ≡ c ++ y ∷ s → (b ≡ c) × (x ≡ y) × (r ≡ s)
first-split Is Isnt both [] [] x y r s nb nc ix iy e = (refl, cons-head x y r s e, cons-tail x y r s e)
first-split Is Isnt both [] (k ∷ c) x y r s nb nc ix iy e =
    absurd (both k (subst Is (cons-head x k r (c ++ y ∷ s) e) ix) (All-head Isnt k c nc))
first-split Is Isnt both (k ∷ b) [] x y r s nb nc ix iy e =
    absurd (both k (subst Is (sym (cons-head k y (b ++ x ∷ r) s e)) iy) (All-head Isnt k b nb))
first-split Is Isnt both (k ∷ b) (l ∷ c) x y r s nb nc ix iy e =
    let more = first-split Is Isnt both b c x y r s (All-tail Isnt k b nb) (All-tail Isnt l c nc) ix iy
    (cons-tail k l (b ++ x ∷ r) (c ++ y ∷ s) e) in
    let head = cons-head k l (b ++ x ∷ r) (c ++ y ∷ s) e in
    (ap (λ z. z ∷ b) head ∙ ap (λ z. l ∷ z) more.0, more.1, more.2)

-- no list has such an element that has none
none-first : {A : Type 0} (Is Isnt : A → Type 0) → ((a : A) → Is a → Isnt a → ⊥) → (b : List A) (x : A) (r : List A) → All Isnt (b ++ x ∷ r) → Is x → ⊥
none-first Is Isnt both [] x r none ix = both x ix (All-head Isnt x r none)
none-first Is Isnt both (k ∷ b) x r none ix = none-first Is Isnt both b x r (All-tail Isnt k (b ++ x ∷ r) none) ix

some-one : {A : Type 0} (x y : A) → Some x ≡ Some y → x ≡ y
some-one x y e = cc

some-none : {A : Type 0} (x : A) → Some x ≡ None → ⊥
some-none x e = absurd (cc)

true-false : (b : Bool) → IsTrue b → b ≡ false → ⊥
true-false b t f = absurd (cc)

-- the first opening of a list is one
pub opening-one : (list : List (Option Opening)) (n m : ℕ) (x y : Opening) → IsFirstAt list n x → IsFirstAt list m y → (n ≡ m) × (x ≡ y)
opening-one list n m x y a b =
    let same = first-split (λ o. o ≡ None → ⊥) (λ o. o ≡ None) (λ o is isnt. is isnt) a.before b.before (Some x) (Some y) a.after b.after a.nothing b.nothing
    (some-none x) (some-none y) (sym a.parts ∙ b.parts) in
    (a.place ∙ ap length same.0 ∙ sym b.place, some-one x y same.1)

pub opening-none : (list : List (Option Opening)) (n : ℕ) (x : Opening) → All (λ o. o ≡ None) list → IsFirstAt list n x → ⊥
opening-none list n x none a =
    none-first (λ o. o ≡ None → ⊥) (λ o. o ≡ None) (λ o is isnt. is isnt) a.before (Some x) a.after (subst (All (λ o. o ≡ None)) a.parts none) (some-none x)

-- the first answer is one
answer-one : (seq : ℕ) (heard : List (Option Segment)) (n m : ℕ) (x y : Segment) (r s : List (Option Segment)) → Connects seq heard n x r → Connects seq heard m y s
    → (n ≡ m) × (x ≡ y) × (r ≡ s)
answer-one seq heard n m x y r s a b =
    let same = first-split (λ h. IsTrue (accepts_at seq h)) (λ h. accepts_at seq h ≡ false) (λ h. true-false (accepts_at seq h)) a.before b.before
    (Some x) (Some y) r s a.none b.none a.accepted b.accepted (sym a.parts ∙ b.parts) in
    (a.place_is ∙ ap length same.0 ∙ sym b.place_is, some-one x y same.1, same.2)

answer-none : (seq : ℕ) (heard : List (Option Segment)) (n : ℕ) (x : Segment) (r : List (Option Segment)) → All (λ h. accepts_at seq h ≡ false) heard
    → Connects seq heard n x r → ⊥
answer-none seq heard n x r none a =
    none-first (λ h. IsTrue (accepts_at seq h)) (λ h. accepts_at seq h ≡ false) (λ h. true-false (accepts_at seq h)) a.before (Some x) r
    (subst (All (λ h. accepts_at seq h ≡ false)) a.parts none) a.accepted

-- what is heard behind the first opening is one
behind-one : (records : List Record) (n m : ℕ) (x y : Opening) → (n ≡ m) × (x ≡ y) → heard_behind records m y ≡ heard_behind records n x
behind-one records n m x y same = ap (λ k. heard_behind records k y) (sym same.0) ∙ ap (heard_behind records n) (sym same.1)

-- a capture has one connection
pub connection-one : (records : List Record) (o p : Opening) (irs jrs place other : ℕ) (heard others : List (Option Segment)) → HasConnection records o irs place heard
    → HasConnection records p jrs other others → (o ≡ p) × (irs ≡ jrs) × (place ≡ other) × (heard ≡ others)
connection-one records o p irs jrs place other heard others a b =
    let first = opening-one (openings_of records) a.at b.at o p a.is_first b.is_first in
    let second : Connects o.seq (heard_behind records a.at o) b.answer_at b.answer others =
    subst (λ h. Connects o.seq h b.answer_at b.answer others) (behind-one records a.at b.at o p first)
    (subst (λ (q : Opening). Connects q.seq (heard_behind records b.at p) b.answer_at b.answer others) (sym first.1) b.connects) in
    let same = answer-one o.seq (heard_behind records a.at o) a.answer_at b.answer_at a.answer b.answer heard others a.connects second in (
      first.1,
      a.irs_is ∙ ap (λ (s : Segment). s.seq) same.1 ∙ sym b.irs_is,
      a.place_is ∙ ap (λ n. suc n + suc a.answer_at) first.0 ∙ ap (λ n. suc b.at + suc n) same.0 ∙ sym b.place_is,
      same.2,
    )

-- and none where no segment accepts what was asked for first
pub connection-none : (records : List Record) (at : ℕ) (o p : Opening) (irs place : ℕ) (heard : List (Option Segment)) → IsFirstAt (openings_of records) at o
    → All (λ h. accepts_at o.seq h ≡ false) (heard_behind records at o) → HasConnection records p irs place heard → ⊥
connection-none records at o p irs place heard is_first none b =
    let first = opening-one (openings_of records) at b.at o p is_first b.is_first in
    let connects : Connects o.seq (heard_behind records at o) b.answer_at b.answer heard =
    subst (λ h. Connects o.seq h b.answer_at b.answer heard) (behind-one records at b.at o p first)
    (subst (λ (q : Opening). Connects q.seq (heard_behind records b.at p) b.answer_at b.answer heard) (sym first.1) b.connects) in
    answer-none o.seq (heard_behind records at o) b.answer_at b.answer heard none connects
