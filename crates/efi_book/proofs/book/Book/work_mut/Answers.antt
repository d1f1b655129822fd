use Rattle.std.proofs.Common.{◌≡◌, Some, sym, ◌∙◌}
use Rattle.std.specs.List.{position}
use Rattle.efi_book.specs.Pendings.{is_at}
use Rattle.efi_book.specs.Books.{Tokens}
use Rattle.efi_book.proofs.Lent.{ends_alike, lent, read}
use Rattle.efi_book.proofs.book.Book.work_mut.Goals as goal

pub returns-in-Some : goal.returns-in-Some
returns-in-Some g c =
    let s : Tokens g.row.T.Denot = record { pending = c.self.inside.pending.items; done = c.self.inside.done.items; ups = c.self.inside.ups.items; next = c.self.inside.next; spare = c.self.inside.spare } in
    let here : position (is_at c.args.ticket) s.pending ≡ Some c.in-Some.i = rw (← c.deref.ensures.value) (sym c.index_of.ensures.place ∙ c.in-Some.is) in
    rw (← c.self.view_is) (
      ends_alike (lent s c.args.ticket c.in-Some.i c.index_mut.result.now here c.index_mut.ensures.value),
      record { writes_back = tt; value = read s c.args.ticket c.in-Some.i c.index_mut.result.now here c.index_mut.ensures.value },
    )
