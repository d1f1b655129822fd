-- What a book, a table and a driver's children end as, where a work or a value is lent for writing.
use Rattle.std.specs.Prelude.{ℕ, Option, map}
use Rattle.std.specs.Borrow.{LendsIf, Fml, RattleType, MutBor}
use Rattle.efi_base.specs.declared.tokens.Ticket.{Ticket}
use Rattle.efi_book.specs.Books.{Tokens, work_put}
use Rattle.efi_book.specs.Tables.{Rows, with_rows}
use Rattle.efi_book.specs.Families.{Family, renewed, with_value}
use Rattle.efi_book.specs.contracts.book.Book.{the_row}
use Rattle.efi_book.specs.contracts.table.Table.{the_row as table_row}
use Rattle.efi_book.specs.contracts.children.Children.{the_row as children_row}

-- once the borrow ends, the pending token has the work that was written last; without one, the book stays as it is
abbrev pub lends_work : (T : RattleType) → MutBor (Tokens T.Denot) → Ticket → Option (MutBor T.Denot) → Fml
lends_work T s ticket r = LendsIf (the_row T) T s r (work_put s.now ticket) s.now

module _ (C : RattleType) where
  -- once the borrow ends, the child with this key and serial has the value that was written last; without one, the
  -- table stays as it is
  abbrev pub lends_row : MutBor (Rows C.Denot) → ℕ → ℕ → Option (MutBor C.Denot) → Fml
  lends_row t key serial r = LendsIf (table_row C) C t r (λ w. with_rows t.now (map (renewed key serial w) t.now.children)) t.now

  -- the same of the callers' children and the stack's own
  abbrev pub lends_child : (K : RattleType) → MutBor (Family C.Denot) → ℕ → ℕ → Option (MutBor C.Denot) → Fml
  lends_child K f key serial r = LendsIf (children_row K C) C f r (with_value f.now key serial) f.now
