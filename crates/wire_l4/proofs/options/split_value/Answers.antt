-- The option in front is the first of those that stand there, or there are none.
use Rattle.wire_l4.proofs.Items.{item-begins, item-short, item-long}
use Rattle.wire_l4.proofs.options.split_value.Goals as goal

pub returns-clause-some : goal.returns-clause-some
returns-clause-some c = item-begins c.args.bytes.now c.requires c.if-size-lt2.false c.if-bytes-size.false

pub returns-then-size-lt2-clause-none : goal.returns-then-size-lt2-clause-none
returns-then-size-lt2-clause-none c = item-short c.args.bytes.now c.if-bytes-lt2.false c.requires c.if-size-lt2.true

pub returns-then-bytes-size-clause-none : goal.returns-then-bytes-size-clause-none
returns-then-bytes-size-clause-none c =
    item-long c.args.bytes.now c.if-bytes-lt2.false c.requires c.if-size-lt2.false c.if-bytes-size.true
