use Rattle.std.proofs.Common.{arith}
use Rattle.efi_window.proofs.Words.{or-in, or-out, without-in, without-out}
use Rattle.efi_window.proofs.bits.with_run.Goals as goal

pub returns-then-set-clause-inside : goal.returns-then-set-clause-inside
returns-then-set-clause-inside c = λ i a b. rw (or-in c.args.word c.mask-run.result i (c.mask-run.ensures.inside i a b)) (cc)

pub returns-then-set-clause-below : goal.returns-then-set-clause-below
returns-then-set-clause-below c = λ i a. or-out c.args.word c.mask-run.result i (c.mask-run.ensures.below i a)

pub returns-then-set-clause-above : goal.returns-then-set-clause-above
returns-then-set-clause-above c = λ i a b. or-out c.args.word c.mask-run.result i (c.mask-run.ensures.above i a)

pub returns-clause-inside : goal.returns-clause-inside
returns-clause-inside c = λ i a b. rw (without-in c.args.word c.mask-run.result i (omega arith) (omega arith) (c.mask-run.ensures.inside i a b)) (cc)

pub returns-clause-below : goal.returns-clause-below
returns-clause-below c = λ i a. without-out c.args.word c.mask-run.result i (omega arith) (omega arith) (c.mask-run.ensures.below i a)

pub returns-clause-above : goal.returns-clause-above
returns-clause-above c = λ i a b. without-out c.args.word c.mask-run.result i (omega arith) b (c.mask-run.ensures.above i a)
