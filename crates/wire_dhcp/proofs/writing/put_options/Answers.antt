-- One option after the other.
use Rattle.std.proofs.Common.{[], arith}
use Rattle.wire_dhcp.proofs.Cursor.{options-more, size-more, short-value, stands-as}
use Rattle.wire_dhcp.proofs.writing.put_options.Goals as goal

pub put_option-end-requires-clause-size : goal.put_option-end-requires-clause-size
put_option-end-requires-clause-size c = short-value c.args.options.now c.loop-option.option-index _ c.loop-option-test.true c.requires.good

pub loop-option-preserved : goal.loop-option-preserved
loop-option-preserved c = (
  omega (arith, size-more c.args.options.now c.loop-option.option-index (record { code = 0; value = record { ref_ptr = (0, 0); now = [] } }) c.loop-option-test.true, c.put_option-end.ensures.end, c.loop-option.invariant.0),
  λ text before h. stands-as _ _ before c.put_option-end.new.room c.put_option-end.result (options-more c.args.options.now c.loop-option.option-index _ text c.loop-option-test.true)
      (c.put_option-end.ensures.text _ before (c.loop-option.invariant.1 text before h)),
)
