use Rattle.std.proofs.Common.{sym, ◌∙◌, arith}
use Rattle.efi_book.specs.Cores.{is_configured}
use Rattle.efi_book.proofs.Busy.{met, passed}
use Rattle.efi_book.proofs.driver.Core.is_busy.Goals as goal

pub returns-then-is_some : goal.returns-then-is_some
returns-then-is_some g c =
    sym (met is_configured c.args.self.now.children.live c.loop-i.i c.at.result.now c.at.ensures (sym c.is_some.ensures ∙ c.if-is_some.true))

pub loop-i-preserved : goal.loop-i-preserved
loop-i-preserved g c = record {
  within = omega (arith, c.loop-i-test.true, c.len.ensures);
  passed = passed is_configured c.args.self.now.children.live c.loop-i.i c.at.result.now c.at.ensures (sym c.is_some.ensures ∙ c.if-is_some.false) ∙ c.loop-i.invariant.passed;
}
