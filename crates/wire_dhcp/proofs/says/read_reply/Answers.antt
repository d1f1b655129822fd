-- A message for the station, by its type.
use Rattle.std.proofs.Common.{sym, ◌∙◌}
use Rattle.wire_dhcp.proofs.Values.{reply-for}
use Rattle.wire_dhcp.proofs.says.read_reply.Goals as goal

pub returns : goal.returns
returns c =
    reply-for c.args.mac c.args.message.now c.fixed-fixed.result c.message_type.result c.reply_by.result c.fixed-fixed.ensures c.message_type.ensures
    (sym c.is_for.ensures ∙ c.if-not-is_for.false) c.reply_by.ensures
