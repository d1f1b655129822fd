use Rattle.std.proofs.Common.{inl, inr, ◌+◌, ◌/◌, arith}
use Rattle.std.proofs.lemmas.Bool.{cases_lt}
use Rattle.efi_window.proofs.Words.{run-here, run-stops, run-through}
use Rattle.efi_window.proofs.bits.run_end.Goals as goal

pub returns-then-end-at-clause-alike : goal.returns-then-end-at-clause-alike
returns-then-end-at-clause-alike c = λ i a b. elim (cases_lt i c.loop-at.at) [ inl l ↦ c.loop-at.invariant.alike i a l | inr l ↦ run-here c.args.words.now c.loop-at.at c.alike_from-run.result i c.args.set l (omega arith) (omega arith) c.alike_from-run.ensures.alike ]

pub returns-then-low-run-lt-WORD-clause-alike : goal.returns-then-low-run-lt-WORD-clause-alike
returns-then-low-run-lt-WORD-clause-alike c = λ i a b. elim (cases_lt i c.loop-at.at) [ inl l ↦ c.loop-at.invariant.alike i a l | inr l ↦ run-here c.args.words.now c.loop-at.at c.alike_from-run.result i c.args.set l b (omega arith) c.alike_from-run.ensures.alike ]

pub returns-then-low-run-lt-WORD-clause-ends : goal.returns-then-low-run-lt-WORD-clause-ends
returns-then-low-run-lt-WORD-clause-ends c = λ l. run-stops c.args.words.now c.loop-at.at c.alike_from-run.result _ (omega arith) (c.alike_from-run.ensures.ends (omega arith))

pub loop-at-preserved : goal.loop-at-preserved
loop-at-preserved c = record {
  least = omega (arith, c.words_end-at.ensures.least);
  most = omega (arith, c.words_end-at.ensures.most);
  alike = λ i a b. elim (cases_lt i c.loop-at.at) [
    | inl l ↦ c.loop-at.invariant.alike i a l
    | inr l ↦ elim (cases_lt i (c.loop-at.at + c.alike_from-run.result)) [
      | inl m ↦ run-here c.args.words.now c.loop-at.at c.alike_from-run.result i c.args.set l m (omega arith) c.alike_from-run.ensures.alike
      | inr m ↦ run-through c.args.words.now c.whole_word.result i c.args.set (c.words_end-at.ensures.alike (i / 64) (omega arith) (omega arith)) c.whole_word.ensures
    ]
  ];
}
