use Rattle.efi_book.specs.Pendings.{is_childs}
use Rattle.efi_base.specs.declared.tokens.End.TheVariants.{Aborted}
use Rattle.efi_book.proofs.Lefts.{left_keeps}
use Rattle.efi_book.proofs.book.Book.cancel.Goals as goal

pub returns-clause-keeps : goal.returns-clause-keeps
returns-clause-keeps g c = λ o.
    let v = c.self.inside in
    rw (← c.self.view_is) (
    left_keeps
    o
    (record { pending = v.pending.items; done = v.done.items; ups = v.ups.items; next = v.next; spare = v.spare })
    (is_childs c.args.child c.args.ticket)
    c.in-Some.i
    c.remove-p.result
    Aborted
    c.remove-p.result.work
    c.remove-p.new.self.items
    c.deref.result.now
    c.leave.new.done.items
    c.leave.new.ups.items
    c.index_of_childs.result
    c.index_of_childs.ensures.place
    c.in-Some.is
    c.deref.ensures.value
    c.remove-p.ensures.value
    c.remove-p.ensures.items
    c.leave.ensures.done
    c.leave.ensures.ups
    )
