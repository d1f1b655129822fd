-- A code, a length and the value.
use Rattle.std.proofs.Common.{append_assoc}
use Rattle.wire_dhcp.proofs.Cursor.{stands-as}
use Rattle.wire_dhcp.proofs.writing.put_option.Goals as goal

pub returns-clause-text : goal.returns-clause-text
returns-clause-text c text before h =
    stands-as _ _ before c.put_next.new.room c.put_next.result (append_assoc text _ _)
    (c.put_next.ensures.text _ before (c.put_next-value.ensures.text text before h))
