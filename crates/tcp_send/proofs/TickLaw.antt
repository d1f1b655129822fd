-- What goes at rows, and what goes between them.
use Rattle.std.proofs.Common.{◌≡◌, ◌≤◌, ◌<◌, ℕ, suc, ◌+◌, ◌^◌, Bool, true, false, List, [], ◌∷◌, length, Option, Some, None, slice_get, refl, sym, ap, subst, ◌∙◌, arith}
use Rattle.std.specs.Prelude.{if◌then◌else◌, IfSome, nat_le, nat_lt, ◌==◌, not, ◌&&◌, is_none, option_map}
use Rattle.std.specs.Option.{option_and_then, option_map_or}
use Rattle.std.proofs.lemmas.Bool.Decides.{nat_tests}
use Rattle.std.proofs.lemmas.Bool.{leb-false, lt-leb}
use Rattle.efi_base.specs.declared.plain.Tick.{Tick}
use Rattle.tcp_send.specs.declared.backoff.Backoff.{Backoff}
use Rattle.tcp_send.specs.declared.flight.Segment.{Segment}
use Rattle.tcp_send.specs.declared.text.Cut.{Cut}
use Rattle.tcp_send.specs.Rows.{started, row_at, row_tick, is_row}
use Rattle.tcp_send.specs.Sender.{Sender, sent_of, first_cut, cut_at, row_cut, new_segment, cut_now, after_now, passed_of, is_open, is_due, may_send, waits, restarted, settled, next_tick, after_row, after_new, row_passed, with_sent}
use Rattle.tcp_send.specs.Ticks.{IsOver}

-- apart from rows what goes is new
pub new-alone : (s : Sender) (now : Tick) → is_due s now ≡ false → IfSome (cut_now s now) (λ c. c.place ≡ sent_of s)
new-alone s now e =
    let fresh : Option Cut = Some (cut_at s (sent_of s) (new_segment s)) in
    let IsNew : Option Cut → Type 0 = λ o. IfSome o (λ c. c.place ≡ sent_of s) in
    let Then : Bool → Type 0 = λ due. IsNew (if not (is_open s) then None else if due then row_cut s else if may_send s then fresh else None) in
    subst Then (sym e) (elim (is_open s) as (λ b. IsNew (if not b then None else if may_send s then fresh else None)) [
      | false ↦ tt
      | true ↦ elim (may_send s) as (λ b. IsNew (if b then fresh else None)) [ true ↦ refl | false ↦ tt ]
    ])

not-empty : (flight : List Segment) (oldest : Segment) → slice_get flight 0 ≡ Some oldest → (length flight == 0) ≡ false
not-empty [] oldest e = absurd (cc)
not-empty (s ∷ flight) oldest e = let some : length (s ∷ flight) ≡ suc (length flight) = refl in grind (arith, nat_tests)

-- at a row the oldest segment goes again
pub goes-again : (s : Sender) (now : Tick) (oldest : Segment) → is_open s ≡ true → is_due s now ≡ true → passed_of s.backoff < 8
    → slice_get s.flight 0 ≡ Some oldest → cut_now s now ≡ Some (cut_at s s.base oldest)
goes-again s now oldest begun due few e =
    let ne : (passed_of s.backoff == 8) ≡ false = grind (arith, nat_tests) in
    let fresh : Option Cut = Some (cut_at s (sent_of s) (new_segment s)) in
    let probe : Option Cut = Some (cut_at s (sent_of s) (first_cut s 1)) in
    let again : Option Cut = option_map (cut_at s s.base) (slice_get s.flight 0) in
    let row : Bool → Bool → Option Cut = λ a b. if a then None else if b then probe else again in
    let all : Bool → Bool → Option Cut = λ a b. if not a then None else if b then row_cut s else if may_send s then fresh else None in
    ap (λ a. all a (is_due s now)) begun ∙ ap (λ b. all true b) due ∙ ap (λ a. row a (length s.flight == 0)) ne
    ∙ ap (λ b. row false b) (not-empty s.flight oldest e) ∙ ap (option_map (cut_at s s.base)) e

from-none : {A : Type 0} (o : Option A) → is_none o ≡ true → o ≡ None
from-none None e = refl
from-none (Some x) e = absurd (cc)

same-none : (s : Sender) → is_none s.backoff ≡ true → s ≡ record s { backoff = None }
same-none s e = ap (λ b. record s { backoff = b }) (from-none s.backoff e)

settled-quiet : (s : Sender) (now : Tick) → IsOver s → settled s now ≡ s
settled-quiet s now over =
    elim (is_none s.backoff) as (λ b. is_none s.backoff ≡ b → (if b then restarted now s else s) ≡ s) [
      | false ↦ λ _. refl
      | true ↦ λ none. elim (waits s) as (λ b. waits s ≡ b → record s { backoff = if b then Some (started now) else None } ≡ s) [
        | true ↦ λ w. absurd (cc (over.counts w))
        | false ↦ λ _. sym (same-none s none)
      ] refl
    ] refl

-- a tick at which nothing is due leaves the sender as it is
pub quiet-cut : (s : Sender) (now : Tick) → IsOver s → is_due s now ≡ false → cut_now s now ≡ None
quiet-cut s now over due =
    let fresh : Option Cut = Some (cut_at s (sent_of s) (new_segment s)) in
    let all : Bool → Bool → Bool → Option Cut = λ a b m. if not a then None else if b then row_cut s else if m then fresh else None in
    ap (λ b. all (is_open s) b (may_send s)) due ∙ ap (λ m. all (is_open s) false m) over.may
    ∙ elim (is_open s) as (λ b. all b false false ≡ None) [ true ↦ refl | false ↦ refl ]

pub quiet-after : (s : Sender) (now : Tick) → IsOver s → is_due s now ≡ false → after_now s now ≡ s
quiet-after s now over due =
    let all : Bool → Bool → Bool → Sender = λ a b m. if not a then s else if b then after_row s else if m then after_new s now else settled s now in
    ap (λ b. all (is_open s) b (may_send s)) due ∙ ap (λ m. all (is_open s) false m) over.may
    ∙ elim (is_open s) as (λ b. all b false false ≡ s) [ true ↦ settled-quiet s now over | false ↦ refl ]

abbrev the_tick : ℕ → Tick
the_tick n = record { 0 = n }

not-less : (n : ℕ) → nat_lt n (2 ^ 64) ≡ false → 2 ^ 64 ≤ n
not-less n e = omega (arith, leb-false (suc n) (2 ^ 64) e)

row-later : (b : Backoff) (now : Tick) → now.0 < 2 ^ 64 → IfSome (row_tick b) (λ t. now.0 < t.0) → is_row b now ≡ false
row-later b now short h =
    let at = b.since.0 + row_at b.passed in
    elim (nat_lt at (2 ^ 64)) as (λ (c : Bool). nat_lt at (2 ^ 64) ≡ c → IfSome (if c then Some (the_tick at) else None) (λ t. now.0 < t.0) → nat_le at now.0 ≡ false) [
      | true ↦ λ _ later. lt-leb at now.0 later
      | false ↦ λ e _. let far : 2 ^ 64 ≤ at = not-less at e in lt-leb at now.0 (omega (arith, far))
    ] refl h

none-due : (waiting : Bool) (o : Option Backoff) (now : Tick) → now.0 < 2 ^ 64
    → IfSome (if true && waiting then option_and_then row_tick o else None) (λ t. now.0 < t.0) → (waiting && option_map_or (λ b. is_row b now) o false) ≡ false
none-due false o now short h = refl
none-due true None now short h = refl
none-due true (Some b) now short h = row-later b now short h

-- before the next tick nothing is due
pub due-later : (s : Sender) (now : Tick) → now.0 < 2 ^ 64 → is_open s ≡ true → IfSome (next_tick s) (λ t. now.0 < t.0) → is_due s now ≡ false
due-later s now short begun h =
    let Is : Bool → Type 0 = λ a. IfSome (if a && waits s then option_and_then row_tick s.backoff else None) (λ t. now.0 < t.0) in
    none-due (waits s) s.backoff now short (subst Is begun h)

row-there : (b : Backoff) (t : Tick) → row_tick b ≡ Some t → is_row b t ≡ true
row-there b t h =
    let at = b.since.0 + row_at b.passed in
    elim (nat_lt at (2 ^ 64)) as (λ (c : Bool). (if c then Some (the_tick at) else None) ≡ Some t → nat_le at t.0 ≡ true) [
      | true ↦ λ e. let same : the_tick at ≡ t = cc in let n : at ≡ t.0 = ap (λ (x : Tick). x.0) same in grind (arith, nat_tests)
      | false ↦ λ e. absurd (cc)
    ] h

one-due : (waiting : Bool) (o : Option Backoff) (t : Tick) → (if true && waiting then option_and_then row_tick o else None) ≡ Some t
    → (waiting && option_map_or (λ b. is_row b t) o false) ≡ true
one-due false o t h = absurd (cc)
one-due true None t h = absurd (cc)
one-due true (Some b) t h = row-there b t h

-- at the next tick a row is due
pub due-there : (s : Sender) (t : Tick) → is_open s ≡ true → next_tick s ≡ Some t → is_due s t ≡ true
due-there s t begun h =
    let Is : Bool → Type 0 = λ a. (if a && waits s then option_and_then row_tick s.backoff else None) ≡ Some t in
    one-due (waits s) s.backoff t (subst Is begun h)

last-row : (o : Option Backoff) → passed_of o ≡ 8 → passed_of (row_passed o) ≡ 9
last-row None e = absurd (omega arith)
last-row (Some b) e = omega arith

no-first : (flight : List Segment) (f : Segment → Cut) → (length flight == 0) ≡ false → option_map f (slice_get flight 0) ≡ None → ⊥
no-first [] f ne e = absurd (cc)
no-first (s ∷ flight) f ne e = absurd (cc)

closed : (b : Bool) (n : ℕ) → n ≡ 9 → (b && not (nat_lt 8 n)) ≡ false
closed true n e = grind (arith, nat_tests)
closed false n e = refl

-- a row at which nothing goes is the last one
row-over : (s : Sender) → row_cut s ≡ None → is_open (after_row s) ≡ false
row-over s none =
    let probe : Option Cut = Some (cut_at s (sent_of s) (first_cut s 1)) in
    let again : Option Cut = option_map (cut_at s s.base) (slice_get s.flight 0) in
    let t : Sender = record s { backoff = row_passed s.backoff } in
    let u : Sender = record (with_sent t (first_cut s 1)) { probing = true } in
    elim (passed_of s.backoff == 8) as (λ a. (passed_of s.backoff == 8) ≡ a → (if a then None else if length s.flight == 0 then probe else again) ≡ None
    → is_open (if not a && length s.flight == 0 then u else t) ≡ false) [
      | true ↦ λ e _.
          let eight : passed_of s.backoff ≡ 8 = grind (arith, nat_tests) in
          let nine = last-row s.backoff eight in
          closed (nat_lt 0 s.m) (passed_of (row_passed s.backoff)) nine
      | false ↦ λ _ n. absurd (elim (length s.flight == 0) as (λ b. (length s.flight == 0) ≡ b → (if b then probe else again) ≡ None → ⊥) [
        | true ↦ λ _ m. absurd (cc)
        | false ↦ λ ne m. no-first s.flight (cut_at s s.base) ne m
      ] refl n)
    ] refl none

settled-over : (s : Sender) (now : Tick) → may_send s ≡ false → IsOver (settled s now)
settled-over s now may =
    elim (is_none s.backoff) as (λ b. is_none s.backoff ≡ b → IsOver (if b then restarted now s else s)) [
      | true ↦ λ _. record { may = may; counts = λ w. ap (λ b. is_none (if b then Some (started now) else None)) w }
      | false ↦ λ e. record { may = may; counts = λ _. e }
    ] refl

-- once no segment went and nothing was given up, the event is over
pub over-after : (s : Sender) (now : Tick) → cut_now s now ≡ None → is_open (after_now s now) ≡ true → IsOver (after_now s now)
over-after s now none begun =
    let fresh : Option Cut = Some (cut_at s (sent_of s) (new_segment s)) in
    elim (is_open s) as (λ a. is_open s ≡ a → (if not a then None else if is_due s now then row_cut s else if may_send s then fresh else None) ≡ None
    → is_open (if not a then s else if is_due s now then after_row s else if may_send s then after_new s now else settled s now) ≡ true
    → IsOver (if not a then s else if is_due s now then after_row s else if may_send s then after_new s now else settled s now)) [
      | false ↦ λ e _ b. absurd (cc)
      | true ↦ λ _ n b. elim (is_due s now) as (λ d. (if d then row_cut s else if may_send s then fresh else None) ≡ None
          → is_open (if d then after_row s else if may_send s then after_new s now else settled s now) ≡ true
          → IsOver (if d then after_row s else if may_send s then after_new s now else settled s now)) [
            | true ↦ λ n b. let f = row-over s n in absurd (cc)
            | false ↦ λ n b. elim (may_send s) as (λ m. may_send s ≡ m → (if m then fresh else None) ≡ None → IsOver (if m then after_new s now else settled s now)) [
              | true ↦ λ _ n. absurd (cc)
              | false ↦ λ e _. settled-over s now e
            ] refl n
          ] n b
    ] refl none begun
