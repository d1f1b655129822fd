use Rattle.std.proofs.Common.{◌≡◌, Some, slice_get, refl, ◌∙◌, length, arith}
use Rattle.std.proofs.lemmas.Option.{slice_get_read}
use Rattle.slab.specs.Slab.{get}
use Rattle.efi_book.proofs.Places.{counted, placed, held}
use Rattle.efi_book.proofs.table.Table.at.Goals as goal

pub index-requires : goal.index-requires
index-requires g c =
    let fits = rw (← c.self.view_is) at c.requires in
    omega (arith, fits, c.self.inside.order.ok, counted (get c.self.inside.slots) c.self.inside.order.items c.self.invariant.stands)

pub index-requires-2 : goal.index-requires-2
index-requires-2 g c =
    let fits = rw (← c.self.view_is) at c.requires in
    let ks = c.self.inside.order.items in
    let count = counted (get c.self.inside.slots) ks c.self.invariant.stands in
    let key : slice_get ks c.args.i ≡ Some c.index.result.now = slice_get_read ks (length ks) c.args.i c.index.result.now refl (omega (arith, fits, count)) c.index.ensures in
    held (get c.self.inside.slots) ks c.args.i c.index.result.now c.self.invariant.stands key

pub returns : goal.returns
returns g c =
    let fits = rw (← c.self.view_is) at c.requires in
    let ks = c.self.inside.order.items in
    let count = counted (get c.self.inside.slots) ks c.self.invariant.stands in
    let key : slice_get ks c.args.i ≡ Some c.index.result.now = slice_get_read ks (length ks) c.args.i c.index.result.now refl (omega (arith, fits, count)) c.index.ensures in
    rw (← c.self.view_is) (placed (get c.self.inside.slots) ks c.args.i c.index.result.now c.self.invariant.stands key ∙ c.index-2.ensures)
