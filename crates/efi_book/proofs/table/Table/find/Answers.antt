use Rattle.std.proofs.Common.{sym, ◌∙◌}
use Rattle.slab.specs.Slab.{get}
use Rattle.efi_book.proofs.Places.{look}
use Rattle.efi_book.proofs.table.Table.find.Goals as goal

pub returns : goal.returns
returns g c =
    rw (← c.self.view_is) (
    c.under.ensures ∙ sym (look (get c.self.inside.slots) c.self.inside.order.items c.args.key c.args.serial c.self.invariant.stands (c.self.invariant.known c.args.key))
    )
