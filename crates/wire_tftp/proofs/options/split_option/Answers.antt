-- A name, and the value behind it.
use Rattle.wire_tftp.proofs.Joining.{item-begins, item-alone}
use Rattle.wire_tftp.proofs.options.split_option.Goals as goal

pub returns-clause-some : goal.returns-clause-some
returns-clause-some c =
    item-begins c.args.octets.now c.in-Some.name.now c.in-Some.after.now c.in-Some-split_text.value.now c.in-Some-split_text.behind.now
    c.in-Some.ensures.some c.in-Some-split_text.ensures.some
