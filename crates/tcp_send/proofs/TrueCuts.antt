-- Each segment is a true cut of what was pushed.
use Rattle.std.proofs.Common.{◌≡◌, ◌≤◌, ℕ, ◌+◌, ◌-◌, min, Bool, true, false, IsTrue, List, [], ◌∷◌, length, take, drop, Option, Some, None, slice_get, refl, sym, ap, subst, ◌∙◌, arith, length-drop}
use Rattle.std.specs.Prelude.{if◌then◌else◌, IfSome, ◌==◌, not, option_map}
use Rattle.std.proofs.lemmas.List.{length-take-le, drop-drop}
use Rattle.std.proofs.lemmas.Bool.Decides.{nat_tests}
use Rattle.tcp_send.specs.declared.flight.Segment.{Segment}
use Rattle.tcp_send.specs.declared.text.Cut.{Cut}
use Rattle.efi_base.specs.declared.plain.Tick.{Tick}
use Rattle.tcp_send.specs.Flight.{AreCutFrom, IsCutFrom}
use Rattle.tcp_send.specs.Sender.{Sender, IsSender, pushed_of, sent_of, first_cut, cut_at, row_cut, new_segment, cut_now, passed_of, is_open, is_due, may_send, in_flight}
use Rattle.tcp_send.specs.Stream.{Keeps, IsTrueCut}
use Rattle.tcp_send.proofs.Senders.{ends-with}

pub is-true : (text : List ℕ) (s : Sender) (place : ℕ) (segment : Segment) → Keeps text s → s.base ≤ place → place + segment.len ≤ pushed_of s
    → (IsTrue segment.fin → IsTrue s.finished) → (IsTrue segment.fin → place + segment.len ≡ pushed_of s) → IsTrueCut text s.finished (cut_at s place segment)
is-true text s place segment keeps from to whole end =
    let n = segment.len in
    let rest = ap (drop (place - s.base)) keeps.rest ∙ drop-drop (place - s.base) s.base text in
    let at : s.base + (place - s.base) ≡ place = omega arith in
    let all : length s.kept ≡ length text - s.base = ap length keeps.rest ∙ length-drop s.base text in
    let long : n ≤ length (drop (place - s.base) s.kept) = omega (arith, length-drop (place - s.base) s.kept) in
    let count = length-take-le n (drop (place - s.base) s.kept) long in
    let octets = ap (take n) (rest ∙ ap (λ k. drop k text) at) in
    record {
      within = omega (arith, count, keeps.within);
      octets = octets ∙ ap (λ k. take k (drop place text)) (sym count);
      whole = whole;
      end = λ fin. omega (arith, count, keeps.within, end fin);
    }

first-is-cut : (finished : Bool) (octets : ℕ) (flight : List Segment) (s : Segment) → slice_get flight 0 ≡ Some s → AreCutFrom finished octets flight → IsCutFrom finished octets s
first-is-cut finished octets [] s e h = absurd (cc)
first-is-cut finished octets (x ∷ flight) s e h =
    let f : x ≡ s = cc in
    let Is : Segment → Type 0 = λ (y : Segment). IsCutFrom finished octets y in
    subst Is f h.0

fin-whole : (s : Sender) (most : ℕ) → IsTrue (first_cut s most).fin → IsTrue s.finished
fin-whole s most fin = grind (arith, nat_tests)

pub new-is-true : (text : List ℕ) (s : Sender) (most : ℕ) → IsSender s → Keeps text s → IsTrueCut text s.finished (cut_at s (sent_of s) (first_cut s most))
new-is-true text s most good keeps =
    is-true text s (sent_of s) (first_cut s most) keeps (omega arith) (omega (arith, good.sent)) (fin-whole s most)
    (λ fin. omega (arith, good.sent, ends-with s most fin))

pub old-is-true : (text : List ℕ) (s : Sender) (oldest : Segment) → IsSender s → Keeps text s → slice_get s.flight 0 ≡ Some oldest
    → IsTrueCut text s.finished (cut_at s s.base oldest)
old-is-true text s oldest good keeps e =
    let is = first-is-cut s.finished (length s.kept) s.flight oldest e good.cuts in
    is-true text s s.base oldest keeps (omega arith) (omega (arith, is.within)) is.fin (λ fin. omega (arith, is.last fin))

-- what an option has
first-of : (text : List ℕ) (s : Sender) → IsSender s → Keeps text s → IfSome (option_map (cut_at s s.base) (slice_get s.flight 0)) (IsTrueCut text s.finished)
first-of text s good keeps =
    elim (slice_get s.flight 0) as (λ o. slice_get s.flight 0 ≡ o → IfSome (option_map (cut_at s s.base) o) (IsTrueCut text s.finished)) [
      | None ↦ λ e. tt
      | Some oldest ↦ λ e. old-is-true text s oldest good keeps e
    ] refl

pub row-is-true : (text : List ℕ) (s : Sender) → IsSender s → Keeps text s → IfSome (row_cut s) (IsTrueCut text s.finished)
row-is-true text s good keeps =
    let IsGood : Option Cut → Type 0 = λ o. IfSome o (IsTrueCut text s.finished) in
    let again = option_map (cut_at s s.base) (slice_get s.flight 0) in
    let probe : Option Cut = Some (cut_at s (sent_of s) (first_cut s 1)) in
    elim (passed_of s.backoff == 8) as (λ b. IsGood (if b then None else if length s.flight == 0 then probe else again)) [
      | true ↦ tt
      | false ↦ elim (length s.flight == 0) as (λ b. IsGood (if b then probe else again)) [ true ↦ new-is-true text s 1 good keeps | false ↦ first-of text s good keeps ]
    ]

-- the segment that goes now is a true cut
pub now-is-true : (text : List ℕ) (s : Sender) (now : Tick) → IsSender s → Keeps text s → IfSome (cut_now s now) (IsTrueCut text s.finished)
now-is-true text s now good keeps =
    let IsGood : Option Cut → Type 0 = λ o. IfSome o (IsTrueCut text s.finished) in
    let fresh : Option Cut = Some (cut_at s (sent_of s) (new_segment s)) in
    elim (not (is_open s)) as (λ b. IsGood (if b then None else if is_due s now then row_cut s else if may_send s then fresh else None)) [
      | true ↦ tt
      | false ↦ elim (is_due s now) as (λ b. IsGood (if b then row_cut s else if may_send s then fresh else None)) [
        | true ↦ row-is-true text s good keeps
        | false ↦ elim (may_send s) as (λ b. IsGood (if b then fresh else None)) [
          | true ↦ new-is-true text s (min s.m (s.window.size - in_flight s)) good keeps
          | false ↦ tt
        ]
      ]
    ]
