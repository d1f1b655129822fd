use Rattle.std.proofs.Common.{◌++◌, replicate, ap, ◌∙◌}
use Rattle.std.proofs.lemmas.List.{drop-replicate, take_rest}
use Rattle.wire_dhcp.proofs.Cursor.{stands-as}
use Rattle.wire_dhcp.proofs.sending.pad.Goals as goal

pub returns : goal.returns
returns c text before h =
    stands-as _ _ before c.put_next.new.room c.put_next.result (ap (λ z. text ++ z) (take_rest (replicate 300 0) c.args.end ∙ drop-replicate c.args.end 300 0)) (c.put_next.ensures.text text before h)
