-- The values of all fields are joined.
use Rattle.wire_dhcp.proofs.Fields.{join-fields, joins-as}
use Rattle.wire_dhcp.proofs.message.option_at.Goals as goal

pub returns : goal.returns
returns c =
    let all = join-fields c.args.code c.join-main.result c.join-file.result c.join.result c.args.octets.now c.args.room.now
    c.join-main.new.room c.join-file.new.room c.join.new.room
    (joins-as c.args.code _ _ _ _ _ _ c.options_field.ensures.field c.join-main.ensures.joined)
    (joins-as c.args.code _ _ _ _ _ _ c.file_options.ensures.options c.join-file.ensures.joined)
    (joins-as c.args.code _ _ _ _ _ _ c.sname_options.ensures.options c.join.ensures.joined) in
    record { size = all.size; text = all.text }
