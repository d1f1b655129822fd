use Rattle.std.proofs.Common.{◌∙◌}
use Rattle.efi_base.specs.declared.tokens.End.TheVariants.{NoMapping}
use Rattle.efi_book.specs.Books.{ticket_of}
use Rattle.efi_book.specs.Firsts.{first_by}
use Rattle.efi_book.specs.Rounds.{round_more, round_rest}
use Rattle.drv_ip4.specs.Lost.{rests_on}
use Rattle.drv_ip4.proofs.Steps.{found}
use Rattle.drv_ip4.proofs.defaults.end_resting.Goals as goal

pub returns-in_default-clause-after : goal.returns-in_default-clause-after
returns-in_default-clause-after c =
    let test = rests_on c.args.children.now in
    round_rest test NoMapping c.loop-left.left c.loop-left.tokens _ (found (λ ps. ticket_of (first_by test ps)) c.pending.ensures c.first_resting.ensures c.in_default.is) c.loop-left.invariant.whole

pub loop-left-preserved : goal.loop-left-preserved
loop-left-preserved c =
    let test = rests_on c.args.children.now in record {
      whole = round_more test NoMapping c.loop-left.left c.loop-left.tokens _ _ c.in-Some.t c.loop-left-test.true (found (λ ps. ticket_of (first_by test ps)) c.pending.ensures c.first_resting.ensures c.in-Some.is)
          c.complete.ensures.after c.loop-left.invariant.whole;
      keeps = λ o. c.complete.ensures.keeps o ∙ c.loop-left.invariant.keeps o;
    }
