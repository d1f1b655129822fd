-- The value lies behind what was found before.
use Rattle.wire_dhcp.specs.Walk.{item_seen}
use Rattle.wire_dhcp.proofs.Joins.{holds-more}
use Rattle.wire_dhcp.proofs.options.with_value.Goals as goal

pub returns-clause-joined : goal.returns-clause-joined
returns-clause-joined c value base h =
    holds-more c.args.code c.unwrap_or-place.result value c.args.before (item_seen c.args.option) base c.args.room.now c.put_at.new.room h
    c.if-option-code.false c.unwrap_or-place.ensures c.put_at.ensures
