-- As many octets as fit are copied.
use Rattle.std.proofs.Common.{arith}
use Rattle.wire_dhcp.proofs.Joins.{laid-copied, laid-past}
use Rattle.wire_dhcp.proofs.options.put_at.Goals as goal

pub returns-then-room-place : goal.returns-then-room-place
returns-then-room-place c = laid-past c.args.place c.args.octets.now c.args.room.now c.if-room-place.true

pub returns : goal.returns
returns c =
    laid-copied c.args.place c.min-count.result c.args.octets.now c.args.room.now c.put_within.new.room (omega arith) c.min-count.ensures
    c.put_within.ensures
