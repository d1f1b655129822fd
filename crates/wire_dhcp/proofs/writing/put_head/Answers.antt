-- Each part behind the one before.
use Rattle.wire_dhcp.proofs.Cursor.{stands-start, stands-as, head-parts}
use Rattle.wire_dhcp.proofs.writing.put_head.Goals as goal

pub returns-clause-text : goal.returns-clause-text
returns-clause-text c =
    stands-as _ _ c.args.room.now c.put_next.new.room c.put_next.result
    (head-parts c.args.front.now c.args.file.now c.filled_up.result c.filled_up.ensures)
    (c.put_next.ensures.text _ _ (c.put_next-cookie.ensures.text _ _ (c.put_next-name.ensures.text _ _ (c.put_next-sname.ensures.text _ _ (stands-start c.args.room.now)))))
