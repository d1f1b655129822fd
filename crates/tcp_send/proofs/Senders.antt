-- What is true of each sender stays true.
use Rattle.std.proofs.Common.{◌≡◌, ◌≤◌, ℕ, ◌+◌, ◌-◌, ◌^◌, Bool, true, false, IsTrue, List, [], ◌∷◌, ◌++◌, length, drop, refl, sym, ap, subst, ◌∙◌, arith, length-drop}
use Rattle.tcp_send.specs.declared.flight.Segment.{Segment}
use Rattle.tcp_send.specs.Flight.{AreCutFrom, octets_of, left_of, fin_number}
use Rattle.std.specs.Prelude.{◌==◌, Some, nat_le}
use Rattle.std.proofs.lemmas.Bool.Decides.{nat_tests}
use Rattle.tcp_send.specs.Sender.{Sender, IsSender, next_place, unsent_of, first_cut, passed_of, row_cut, cut_at, sent_of, after_row, with_sent, row_passed}
use Rattle.tcp_send.proofs.Cuts.{left-base, left-sum, left-una, left-cuts, cuts-finished, cuts-longer, cuts-more, octets-more}

pub good-acknowledged : (s : Sender) (una base : ℕ) (kept : List ℕ) (flight : List Segment) → IsSender s → s.una ≤ una → una ≤ next_place s
    → base ≡ (left_of una s.base s.flight).base → flight ≡ (left_of una s.base s.flight).segments → kept ≡ drop (base - s.base) s.kept
    → IsSender (record s { una = una; base = base; kept = kept; flight = flight })
good-acknowledged s una base kept flight good least most e f k =
    let from = left-base una s.base s.flight in
    let sum = left-sum una s.base s.flight in
    let below = left-una una s.base s.flight (omega (arith, good.base)) in
    let octets : octets_of flight ≡ octets_of (left_of una s.base s.flight).segments = ap octets_of f in
    let count : length kept ≡ length s.kept - (base - s.base) = ap length k ∙ length-drop (base - s.base) s.kept in
    let cuts = left-cuts s.finished una s.base (length s.kept) s.flight good.cuts in
    let same : length s.kept - ((left_of una s.base s.flight).base - s.base) ≡ length kept = omega arith in
    let Are : ℕ → Type 0 = λ n. AreCutFrom s.finished n (left_of una s.base s.flight).segments in
    let Cut : List Segment → Type 0 = λ (ss : List Segment). AreCutFrom s.finished (length kept) ss in
    record {
      most = good.most;
      passed = good.passed;
      pushed = omega (arith, good.pushed, good.sent);
      base = omega arith;
      una = omega (arith, good.sent);
      sent = omega (arith, good.sent);
      cuts = subst Cut (sym f) (subst Are same cuts);
      finished = good.finished;
      ended = λ fin. omega (arith, good.ended fin, good.sent);
    }

pub good-finished : (s : Sender) → IsSender s → IsSender (record s { finished = true })
good-finished s good = record {
  most = good.most;
  passed = good.passed;
  pushed = good.pushed;
  base = good.base;
  una = good.una;
  sent = good.sent;
  cuts = cuts-finished s.finished (length s.kept) s.flight good.cuts;
  finished = λ _. refl;
  ended = good.ended;
}

pub good-pushed : (s : Sender) (kept : List ℕ) → IsSender s → s.finished ≡ false → length s.kept ≤ length kept → s.base + length kept ≤ 2 ^ 62
    → IsSender (record s { kept = kept })
good-pushed s kept good more le most =
    let Are : Bool → Type 0 = λ b. AreCutFrom b (length s.kept) s.flight in
    let Then : Bool → Type 0 = λ b. AreCutFrom b (length kept) s.flight in
    record {
      most = good.most;
      passed = good.passed;
      pushed = most;
      base = good.base;
      una = good.una;
      sent = omega (arith, good.sent);
      cuts = subst Then (sym more) (cuts-longer (length s.kept) (length kept) s.flight le (subst Are more good.cuts));
      finished = good.finished;
      ended = λ fin. let is : IsTrue s.finished = good.finished fin in absurd (cc);
    }

pub ends-with : (s : Sender) (most : ℕ) → IsTrue (first_cut s most).fin → unsent_of s ≤ most
ends-with s most fin = grind (arith, nat_tests)

goes-again : (s : Sender) (most : ℕ) → IsSender s → IsTrue s.fin_sent → (first_cut s most).fin ≡ true
goes-again s most good sent =
    let f = good.finished sent in
    let none : unsent_of s ≡ 0 = omega (arith, good.ended sent) in
    let all : nat_le (unsent_of s) most ≡ true = grind (arith, nat_tests) in
    rw (f, all) refl

keeps-una : (s : Sender) (most : ℕ) → IsSender s → s.una ≤ s.base + (octets_of s.flight + (first_cut s most).len) + fin_number (first_cut s most).fin
keeps-una s most good =
    elim s.fin_sent as (λ b. s.fin_sent ≡ b → s.una ≤ s.base + (octets_of s.flight + (first_cut s most).len) + fin_number (first_cut s most).fin) [
      | true ↦ λ e.
          let again = ap fin_number (goes-again s most good e) in
          let before = ap fin_number e in
          omega (arith, good.una)
      | false ↦ λ e.
          let before = ap fin_number e in
          omega (arith, good.una)
    ] refl

pub good-sent : (s : Sender) (most : ℕ) (fin : Bool) (flight : List Segment) → IsSender s → most ≤ 1460 → flight ≡ s.flight ++ first_cut s most ∷ []
    → fin ≡ (first_cut s most).fin → IsSender (record s { flight = flight; fin_sent = fin })
good-sent s most fin flight good le e f =
    let octets : octets_of flight ≡ octets_of s.flight + (first_cut s most).len = ap octets_of e ∙ octets-more s.flight (first_cut s most) in
    let Are : List Segment → Type 0 = λ ss. AreCutFrom s.finished (length s.kept) ss in
    let number = ap fin_number f in
    record {
      most = good.most;
      passed = good.passed;
      pushed = good.pushed;
      base = good.base;
      una = omega (arith, keeps-una s most good);
      sent = omega (arith, good.sent);
      cuts = subst Are (sym e) (cuts-more s.finished (length s.kept) (unsent_of s) s.flight (first_cut s most) refl good.cuts (record {
        within = omega arith;
        most = omega arith;
        fin = λ h. grind (arith, nat_tests);
        last = λ h. omega (arith, ends-with s most h);
      }));
      finished = λ h. let g : IsTrue (first_cut s most).fin = sym f ∙ h in grind (arith, nat_tests);
      ended = λ h. omega (arith, good.sent, ends-with s most (sym f ∙ h));
    }

pub row-first : (s : Sender) → (passed_of s.backoff ≡ 8 → ⊥) → s.flight ≡ [] → row_cut s ≡ Some (cut_at s (sent_of s) (first_cut s 1))
row-first s ne e = let f : (passed_of s.backoff == 8) ≡ false = grind (arith, nat_tests) in rw (f, e) refl

pub row-after : (s : Sender) → (passed_of s.backoff ≡ 8 → ⊥) → s.flight ≡ []
    → after_row s ≡ record (with_sent (record s { backoff = row_passed s.backoff }) (first_cut s 1)) { probing = true }
row-after s ne e = let f : (passed_of s.backoff == 8) ≡ false = grind (arith, nat_tests) in rw (f, e) refl
