use Rattle.std.proofs.Common.{◌∙◌, ◌≡◌, ◌+◌, ◌-◌, ◌%◌, ◌<◌, ap, arith}
use Rattle.std.proofs.lemmas.Nat.{mod_below}
use Rattle.efi_window.specs.Kept.{is_kept}
use Rattle.efi_window.proofs.Rounds.{near, far, by-place}
use Rattle.efi_window.proofs.ring.run.Goals as goal

pub returns-then-most-room-clause-alike : goal.returns-then-most-room-clause-alike
returns-then-most-room-clause-alike c = λ i h. by-place (is_kept c.args.words.now) c.args.set c.args.place c.args.room i (omega arith)
    (λ l. c.run_end.ensures.alike (c.args.place % c.args.room + i) (omega arith) (omega arith))
    (λ l. absurd (omega arith))

pub returns-then-most-room-clause-ends : goal.returns-then-most-room-clause-ends
returns-then-most-room-clause-ends c = λ h.
    let e : c.args.place % c.args.room + (c.run_end.result - c.args.place % c.args.room) ≡ c.run_end.result = omega arith in
    ap (is_kept c.args.words.now) (near c.args.place c.args.room (c.run_end.result - c.args.place % c.args.room) (omega arith) ∙ e)
    ∙ c.run_end.ensures.ends (omega arith)

pub returns-then-end-room-clause-alike : goal.returns-then-end-room-clause-alike
returns-then-end-room-clause-alike c = λ i h. by-place (is_kept c.args.words.now) c.args.set c.args.place c.args.room i (omega arith)
    (λ l. c.run_end-end.ensures.alike (c.args.place % c.args.room + i) (omega arith) (omega arith))
    (λ l. absurd (omega arith))

pub returns-then-end-room-clause-ends : goal.returns-then-end-room-clause-ends
returns-then-end-room-clause-ends c = λ h.
    let e : c.args.place % c.args.room + (c.run_end-end.result - c.args.place % c.args.room) ≡ c.run_end-end.result = omega arith in
    ap (is_kept c.args.words.now) (near c.args.place c.args.room (c.run_end-end.result - c.args.place % c.args.room) (omega arith) ∙ e)
    ∙ c.run_end-end.ensures.ends (omega arith)

pub returns-clause-alike : goal.returns-clause-alike
returns-clause-alike c = λ i h. by-place (is_kept c.args.words.now) c.args.set c.args.place c.args.room i (omega arith)
    (λ l. c.run_end-end.ensures.alike (c.args.place % c.args.room + i) (omega arith) (omega arith))
    (λ l. c.run_end-2.ensures.alike (c.args.place % c.args.room + i - c.args.room) (omega arith) (omega arith))

pub returns-clause-ends : goal.returns-clause-ends
returns-clause-ends c = λ h.
    let low : c.args.place % c.args.room < c.args.room = mod_below c.args.place c.args.room (omega arith) in
    let e : c.args.place % c.args.room + (c.args.room - c.args.place % c.args.room + c.run_end-2.result) - c.args.room ≡ c.run_end-2.result = omega arith in
    ap (is_kept c.args.words.now) (far c.args.place c.args.room (c.args.room - c.args.place % c.args.room + c.run_end-2.result) (omega arith) (omega arith) ∙ e)
    ∙ c.run_end-2.ensures.ends (omega arith)
