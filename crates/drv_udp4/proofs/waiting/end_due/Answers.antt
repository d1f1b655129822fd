use Rattle.std.proofs.Common.{◌∙◌}
use Rattle.efi_base.specs.declared.tokens.End.TheVariants.{ReceiveTimeout}
use Rattle.drv_udp4.specs.Ticks.{is_due}
use Rattle.efi_book.specs.Books.{ticket_of}
use Rattle.efi_book.specs.Firsts.{first_by}
use Rattle.efi_book.specs.Rounds.{round_more, round_rest}
use Rattle.drv_udp4.proofs.Ends.{found}
use Rattle.drv_udp4.proofs.waiting.end_due.Goals as goal

pub returns-in_default-clause-after : goal.returns-in_default-clause-after
returns-in_default-clause-after c =
    round_rest (is_due c.args.m.0) ReceiveTimeout c.loop-left.left c.loop-left.tokens _ (found (λ ps. ticket_of (first_by (is_due c.args.m.0) ps)) c.pending.ensures c.first_due.ensures c.in_default.is) c.loop-left.invariant.whole

pub loop-left-preserved : goal.loop-left-preserved
loop-left-preserved c = record {
  whole = round_more (is_due c.args.m.0) ReceiveTimeout c.loop-left.left c.loop-left.tokens _ _ c.in-Some.t c.loop-left-test.true (found (λ ps. ticket_of (first_by (is_due c.args.m.0) ps)) c.pending.ensures c.first_due.ensures c.in-Some.is)
      c.complete.ensures.after c.loop-left.invariant.whole;
  keeps = λ o. c.complete.ensures.keeps o ∙ c.loop-left.invariant.keeps o;
}
