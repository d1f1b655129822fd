use Rattle.std.proofs.Common.{inl, inr, ◌∙◌, ◌/◌, ◌<◌, length, arith}
use Rattle.std.proofs.lemmas.Bool.{cases_lt}
use Rattle.std.proofs.lemmas.List.{length-set}
use Rattle.efi_window.proofs.Words.{word-inside, word-below, word-above}
use Rattle.efi_window.proofs.bits.mark.Goals as goal

pub loop-at-preserved : goal.loop-at-preserved
loop-at-preserved c =
    let within : c.loop-at.at / 64 < length c.loop-at.words = omega arith in
    record {
      least = omega arith;
      most = omega arith;
      len = omega (arith, length-set c.loop-at.words (c.loop-at.at / 64) c.with_run.result);
      inside = λ i a b. elim (cases_lt i c.loop-at.at) [ inl l ↦ word-below c.loop-at.words c.loop-at.at c.with_run.result i within l c.with_run.ensures.below ∙ c.loop-at.invariant.inside i a l | inr l ↦ word-inside c.loop-at.words c.loop-at.at c.min-high.result c.with_run.result i c.args.set within l b (omega arith) (omega arith) c.with_run.ensures.inside ];
      below = λ i a. word-below c.loop-at.words c.loop-at.at c.with_run.result i within (omega arith) c.with_run.ensures.below ∙ c.loop-at.invariant.below i a;
      above = λ i a. word-above c.loop-at.words c.loop-at.at c.min-high.result c.with_run.result i within (omega arith) a c.with_run.ensures.above ∙ c.loop-at.invariant.above i (omega arith);
    }
