-- What is written is what is answered to the input.
use Rattle.std.proofs.Common.{inl, inr}
use Rattle.boot_top.specs.Extract.{Succeeded, EndedOtherwise, IsRefusal}
use Rattle.boot_top.specs.Watched.{IsAnswerText}
use Rattle.boot_top.proofs.Written.{text-written, front-written}
use Rattle.boot_top.proofs.extract.extract.Goals as goal

pub returns-in-Ok-Success-clause-success : goal.returns-in-Ok-Success-clause-success
returns-in-Ok-Success-clause-success g c =
    text-written _ _ (Succeeded c.args.task) _ _ _ _ _ c.in-Ok.ensures.whole
    (λ input w. rw (c.in-Ok-Success.field-0-is) at (c.in-Ok-Success.ensures.answered input w))
    (rw c.deref.ensures.value at c.write_text.ensures.cases) (λ e. absurd (cc)) (λ e. absurd (cc))

pub returns-in-Ok-Success-clause-front : goal.returns-in-Ok-Success-clause-front
returns-in-Ok-Success-clause-front g c told =
    front-written _ _ _ (IsAnswerText c.args.task) _ _ c.in-Ok.ensures.whole
    (λ input w. inl (rw (c.in-Ok-Success.field-0-is) at (c.in-Ok-Success.ensures.answered input w)))
    (rw c.deref.ensures.value at c.write_text.ensures.front)

pub returns-in-Ok-Otherwise-clause-otherwise : goal.returns-in-Ok-Otherwise-clause-otherwise
returns-in-Ok-Otherwise-clause-otherwise g c =
    text-written _ _ (EndedOtherwise c.args.task) _ _ _ _ _ c.in-Ok.ensures.whole
    (λ input w. rw (c.in-Ok-Otherwise.field-0-is) at (c.in-Ok-Otherwise.ensures.answered input w))
    (rw c.deref-in-Ok-Otherwise.ensures.value at c.write_otherwise.ensures.cases) (λ e. absurd (cc)) (λ e. absurd (cc))

pub returns-in-Ok-Otherwise-clause-front : goal.returns-in-Ok-Otherwise-clause-front
returns-in-Ok-Otherwise-clause-front g c told =
    front-written _ _ _ (IsAnswerText c.args.task) _ _ c.in-Ok.ensures.whole
    (λ input w. inr (inl (rw (c.in-Ok-Otherwise.field-0-is) at (c.in-Ok-Otherwise.ensures.answered input w))))
    (rw c.deref-in-Ok-Otherwise.ensures.value at c.write_otherwise.ensures.front)

pub returns-in-Ok-Refused-clause-refused : goal.returns-in-Ok-Refused-clause-refused
returns-in-Ok-Refused-clause-refused g c =
    text-written _ _ IsRefusal _ _ _ _ _ c.in-Ok.ensures.whole
    (λ input w. rw (c.in-Ok-Refused.field-0-is) at (c.in-Ok-Refused.ensures.answered input w))
    (rw c.deref-in-Ok-Refused.ensures.value at c.write_text-in-Ok-Refused.ensures.cases) (λ e. absurd (cc)) (λ e. absurd (cc))

pub returns-in-Ok-Refused-clause-front : goal.returns-in-Ok-Refused-clause-front
returns-in-Ok-Refused-clause-front g c told =
    front-written _ _ _ (IsAnswerText c.args.task) _ _ c.in-Ok.ensures.whole
    (λ input w. inr (inr (rw (c.in-Ok-Refused.field-0-is) at (c.in-Ok-Refused.ensures.answered input w))))
    (rw c.deref-in-Ok-Refused.ensures.value at c.write_text-in-Ok-Refused.ensures.front)
