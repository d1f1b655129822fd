use Rattle.std.proofs.Common.{◌∙◌}
use Rattle.wire_http.proofs.Walking.{stated_yes, stated_no}
use Rattle.wire_http.proofs.fields.stated_length.Goals.{then-same_word, else-same_word}
use Rattle.wire_http.proofs.fields.stated_length.Goals as goal

pub loop-span-preserved : goal.loop-span-preserved
loop-span-preserved c =
    elim c.if-same_word.branch [
      | then-same_word w ↦
          stated_yes _ _ _ _ _ _ _ _ _ c.loop-span-test.true c.of.ensures w.if-same_word.ensures
          w.of-then-same_word.ensures (w.stated-is ∙ w.join_elements-stated.ensures) c.loop-span.invariant
      | else-same_word w ↦
          w.stated-is ∙ stated_no _ _ _ _ _ _ _ c.loop-span-test.true c.of.ensures w.if-same_word.ensures c.loop-span.invariant
    ]
