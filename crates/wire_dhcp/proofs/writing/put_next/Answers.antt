use Rattle.wire_dhcp.proofs.Cursor.{stands-more}
use Rattle.wire_dhcp.proofs.writing.put_next.Goals as goal

pub returns-clause-text : goal.returns-clause-text
returns-clause-text c text before h =
    stands-more text before c.args.octets.now c.args.room.now c.put_within.new.room c.args.place h c.put_within.ensures
