use Rattle.std.proofs.Common.{arith}
use Rattle.slab.specs.Slab.{get}
use Rattle.efi_book.proofs.Places.{counted}
use Rattle.efi_book.proofs.table.Table.len.Goals as goal

pub returns : goal.returns
returns g c =
    rw (← c.self.view_is) (omega (arith, c.len.ensures, c.self.inside.order.ok, counted (get c.self.inside.slots) c.self.inside.order.items c.self.invariant.stands))
