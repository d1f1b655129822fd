use Rattle.std.proofs.Common.{◌∙◌, ◌+◌, ◌-◌, ◌%◌, false, arith}
use Rattle.efi_window.specs.Kept.{is_kept}
use Rattle.efi_window.proofs.Rounds.{by-place, same-by-place}
use Rattle.efi_window.proofs.ring.free.Goals as goal

pub returns-clause-freed : goal.returns-clause-freed
returns-clause-freed c = λ i h. by-place (is_kept c.mark-2.new.words) false c.args.place c.args.room i (omega arith)
    (λ l. c.mark-2.ensures.above (c.args.place % c.args.room + i) (omega arith) ∙ c.mark.ensures.inside (c.args.place % c.args.room + i) (omega arith) (omega arith))
    (λ l. c.mark-2.ensures.inside (c.args.place % c.args.room + i - c.args.room) (omega arith) (omega arith))

pub returns-clause-others : goal.returns-clause-others
returns-clause-others c = λ i h k. same-by-place (is_kept c.mark-2.new.words) (is_kept c.args.words.now) c.args.place c.args.room i k
    (λ l. c.mark-2.ensures.above (c.args.place % c.args.room + i) (omega arith) ∙ c.mark.ensures.above (c.args.place % c.args.room + i) (omega arith))
    (λ l. c.mark-2.ensures.above (c.args.place % c.args.room + i - c.args.room) (omega arith) ∙ c.mark.ensures.below (c.args.place % c.args.room + i - c.args.room) (omega arith))
