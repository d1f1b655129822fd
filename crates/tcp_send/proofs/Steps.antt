-- What a sender is after each kind of call.
use Rattle.std.proofs.Common.{◌≡◌, ◌≤◌, ◌<◌, ℕ, suc, ◌+◌, ◌-◌, min, Bool, true, false, List, [], ◌∷◌, ◌++◌, length, Option, Some, None, refl, arith, length-append}
use Rattle.std.specs.Prelude.{if◌then◌else◌, nat_le, nat_lt, ◌==◌, not, ◌&&◌, ◌||◌, is_none}
use Rattle.std.proofs.lemmas.Bool.Decides.{nat_tests}
use Rattle.std.proofs.lemmas.Bool.{leb-true}
use Rattle.efi_base.specs.declared.plain.Tick.{Tick}
use Rattle.tcp_send.specs.declared.backoff.Backoff.{Backoff}
use Rattle.tcp_send.specs.declared.flight.Segment.{Segment}
use Rattle.tcp_send.specs.declared.peer_window.SendWindow.{SendWindow}
use Rattle.tcp_send.specs.Rows.{started}
use Rattle.tcp_send.specs.Flight.{Flight, left_of, fin_number}
use Rattle.tcp_send.specs.Sender.{Sender, IsSender, next_place, first_cut, passed_of, after_row, with_sent, row_passed, restarted, waits, acknowledged, after_heard, is_idle, ahead_of, counts, is_open, is_due, may_send, has_more, in_flight, after_new, settled, after_now}
use Rattle.tcp_send.proofs.Senders.{good-acknowledged, good-sent}

-- the same text and una, with at most 8 segments
pub record Goes (s t : Sender) : Type 0 where
  pub sound : IsSender t
  pub few : length t.flight ≤ 8
  pub una : t.una ≡ s.una
  pub base : t.base ≡ s.base
  pub kept : t.kept ≡ s.kept
  pub finished : t.finished ≡ s.finished

right-true : (a b : Bool) → (a && b) ≡ true → b ≡ true
right-true true b e = e
right-true false b e = absurd (cc)

-- another backoff
pub good-backoff : (s : Sender) (backoff : Option Backoff) → IsSender s → passed_of backoff ≤ 9 → IsSender (record s { backoff = backoff })
good-backoff s backoff good le = record {
  most = good.most;
  passed = le;
  pushed = good.pushed;
  base = good.base;
  una = good.una;
  sent = good.sent;
  cuts = good.cuts;
  finished = good.finished;
  ended = good.ended;
}

pub good-probing : (s : Sender) (window : SendWindow) (probing : Bool) → IsSender s → IsSender (record s { window = window; probing = probing })
good-probing s window probing good = record {
  most = good.most;
  passed = good.passed;
  pushed = good.pushed;
  base = good.base;
  una = good.una;
  sent = good.sent;
  cuts = good.cuts;
  finished = good.finished;
  ended = good.ended;
}

pub good-begun : (s : Sender) (window : SendWindow) (m : ℕ) → IsSender s → m ≤ 1460 → IsSender (record s { m = m; window = window })
good-begun s window m good le = record {
  most = le;
  passed = good.passed;
  pushed = good.pushed;
  base = good.base;
  una = good.una;
  sent = good.sent;
  cuts = good.cuts;
  finished = good.finished;
  ended = good.ended;
}

pub good-restarted : (s : Sender) (now : Tick) → IsSender s → IsSender (restarted now s)
good-restarted s now good =
    good-backoff s (if waits s then Some (started now) else None) good
    (elim (waits s) as (λ b. passed_of (if b then Some (started now) else None) ≤ 9) [ true ↦ omega arith | false ↦ omega arith ])

passed-next : (b : Option Backoff) → passed_of b ≤ 8 → passed_of (row_passed b) ≤ 9
passed-next None le = omega arith
passed-next (Some b) le = omega arith

row-goes : (s : Sender) → IsSender s → length s.flight ≤ 8 → passed_of s.backoff ≤ 8 → Goes s (after_row s)
row-goes s good few le =
    let t : Sender = record s { backoff = row_passed s.backoff } in
    let later = good-backoff s (row_passed s.backoff) good (passed-next s.backoff le) in
    let u : Sender = record (with_sent t (first_cut s 1)) { probing = true } in
    let probed = good-probing (with_sent t (first_cut s 1)) s.window true
    (good-sent t 1 (first_cut s 1).fin (s.flight ++ first_cut s 1 ∷ []) later (omega arith) refl refl) in
    elim (not (passed_of s.backoff == 8) && length s.flight == 0)
    as (λ b. (not (passed_of s.backoff == 8) && length s.flight == 0) ≡ b → Goes s (if b then u else t)) [
      | true ↦ λ e.
          let none : (length s.flight == 0) ≡ true = right-true (not (passed_of s.backoff == 8)) (length s.flight == 0) e in
          let zero_of : length s.flight ≡ 0 = grind (arith, nat_tests) in
          record {
            sound = probed;
            few = omega (arith, length-append s.flight (first_cut s 1 ∷ []));
            una = refl;
            base = refl;
            kept = refl;
            finished = refl;
          }
      | false ↦ λ e. record { sound = later; few = few; una = refl; base = refl; kept = refl; finished = refl }
    ] refl

new-goes : (s : Sender) (now : Tick) → IsSender s → length s.flight < 8 → Goes s (after_new s now)
new-goes s now good few =
    let most = min s.m (s.window.size - in_flight s) in
    let segment = first_cut s most in
    let backoff : Option Backoff = if length s.flight == 0 then Some (started now) else s.backoff in
    record {
      sound = good-backoff (with_sent s segment) backoff (good-sent s most segment.fin (s.flight ++ segment ∷ []) good (omega (arith, good.most)) refl refl)
          (elim (length s.flight == 0) as (λ b. passed_of (if b then Some (started now) else s.backoff) ≤ 9) [ true ↦ omega arith | false ↦ good.passed ]);
      few = omega (arith, length-append s.flight (segment ∷ []));
      una = refl;
      base = refl;
      kept = refl;
      finished = refl;
    }

settled-goes : (s : Sender) (now : Tick) → IsSender s → length s.flight ≤ 8 → Goes s (settled s now)
settled-goes s now good few =
    elim (is_none s.backoff) as (λ b. Goes s (if b then restarted now s else s)) [
      | true ↦ record { sound = good-restarted s now good; few = few; una = refl; base = refl; kept = refl; finished = refl }
      | false ↦ record { sound = good; few = few; una = refl; base = refl; kept = refl; finished = refl }
    ]

fewer : (n : ℕ) (b : Bool) → (nat_lt n 8 && b) ≡ true → n < 8
fewer n b e = grind (arith, nat_tests)

-- the next segment is taken
pub now-goes : (s : Sender) (now : Tick) → IsSender s → length s.flight ≤ 8 → Goes s (after_now s now)
now-goes s now good few =
    elim (is_open s) as (λ b. is_open s ≡ b → Goes s (if not b then s else if is_due s now then after_row s else if may_send s then after_new s now else settled s now)) [
      | false ↦ λ _. record { sound = good; few = few; una = refl; base = refl; kept = refl; finished = refl }
      | true ↦ λ begun.
          let lasts = right-true (nat_lt 0 s.m) (not (nat_lt 8 (passed_of s.backoff))) begun in
          let le : passed_of s.backoff ≤ 8 = grind (arith, nat_tests) in
          elim (is_due s now) as (λ b. Goes s (if b then after_row s else if may_send s then after_new s now else settled s now)) [
            | true ↦ row-goes s good few le
            | false ↦ elim (may_send s) as (λ b. may_send s ≡ b → Goes s (if b then after_new s now else settled s now)) [
              | true ↦ λ may.
                  let both = right-true (has_more s) (nat_lt (length s.flight) 8 && nat_lt (in_flight s) s.window.size) may in
                  let less : length s.flight < 8 = fewer (length s.flight) (nat_lt (in_flight s) s.window.size) both in
                  new-goes s now good less
              | false ↦ λ _. settled-goes s now good few
            ] refl
          ]
    ] refl

few-left : (una base : ℕ) (flight : List Segment) → length (left_of una base flight).segments ≤ length flight
few-left una base [] = omega arith
few-left una base (s ∷ ss) =
    let h = few-left una (base + s.len) ss in
    let all : Flight = record { base = base; segments = s ∷ ss } in
    elim (nat_le (base + s.len + fin_number s.fin) una) as (λ b. length (if b then left_of una (base + s.len) ss else all).segments ≤ suc (length ss)) [
      | true ↦ omega arith
      | false ↦ omega arith
    ]

-- something is acknowledged
pub heard-goes : (s : Sender) (now : Tick) (ahead : ℕ) (window : SendWindow) → IsSender s → length s.flight ≤ 8 → ahead ≤ next_place s - s.una
    → Goes (acknowledged s (s.una + ahead)) (after_heard s now ahead window)
heard-goes s now ahead window good few le =
    let una = s.una + ahead in
    let t = acknowledged s una in
    let probing = s.probing && (window.size == 0 && nat_lt 0 (length t.flight)) in
    let u : Sender = record t { window = window; probing = probing } in
    let good-t = good-acknowledged s una t.base t.kept t.flight good (omega arith) (omega (arith, good.una)) refl refl refl in
    let good-u = good-probing t window probing good-t in
    let less : length t.flight ≤ 8 = omega (arith, few-left una s.base s.flight) in
    elim (nat_lt 0 ahead || is_idle s) as (λ b. Goes t (if b then restarted now u else u)) [
      | true ↦ record { sound = good-restarted u now good-u; few = less; una = refl; base = refl; kept = refl; finished = refl }
      | false ↦ record { sound = good-u; few = less; una = refl; base = refl; kept = refl; finished = refl }
    ]

pub counts-within : (s : Sender) (ack : ℕ) → counts s ack ≡ true → ahead_of s ack ≤ next_place s - s.una
counts-within s ack e =
    let within = right-true (is_open s) (nat_le (ahead_of s ack) (next_place s - s.una)) e in
    leb-true (ahead_of s ack) (next_place s - s.una) within
