-- Words on single tokens: which are meant, and where they go when they end.
use Rattle.std.specs.Prelude.{ℕ, Bool, ◌==◌, ◌&&◌, not, List, [], ◌∷◌, ◌++◌}
use Rattle.efi_base.specs.declared.tokens.ChildId.{ChildId}
use Rattle.efi_base.specs.declared.tokens.Ticket.{Ticket}
use Rattle.efi_base.specs.declared.tokens.Owner.{Owner}
use Rattle.efi_base.specs.declared.tokens.Owner.TheVariants.{User, Upper}
use Rattle.efi_base.specs.declared.tokens.TokenId.{TokenId}
use Rattle.efi_base.specs.declared.tokens.End.{End}
use Rattle.efi_base.specs.declared.tokens.End.TheVariants.{Aborted}
use Rattle.efi_book.specs.declared.ends.Pending.{Pending}
use Rattle.efi_book.specs.declared.ends.Done.{Done}
use Rattle.efi_book.specs.declared.ends.Raised.{Raised}
use Rattle.efi_book.specs.declared.ends.Whose.{Whose}
use Rattle.efi_book.specs.declared.ends.Whose.TheVariants.{Child, Owner as OwnedBy}
use Rattle.efi_book.specs.Owners.{is_users, same_owner}

module _ {T : Type 0} where
  -- a token of this child
  abbrev pub is_of : ChildId → Pending T → Bool
  is_of child p = p.child.0 == child.0

  -- the token with this ticket
  abbrev pub is_at : Ticket → Pending T → Bool
  is_at ticket p = p.ticket.0 == ticket.0

  -- the child's token with this ticket
  abbrev pub is_childs : ChildId → Ticket → Pending T → Bool
  is_childs child ticket p = p.child.0 == child.0 && p.ticket.0 == ticket.0

  -- the child's token of a caller
  abbrev pub is_token : ChildId → TokenId → Pending T → Bool
  is_token child token p = p.child.0 == child.0 && is_users p.owner token

  -- a token of this child whose work is of this kind
  abbrev pub is_kind : (T → ℕ) → ChildId → ℕ → Pending T → Bool
  is_kind kind_of child kind p = p.child.0 == child.0 && kind_of p.work == kind

  -- the tokens that an abort means
  abbrev pub picks : Whose → Pending T → Bool
  picks (Child child) p = p.child.0 == child.0
  picks (OwnedBy owner) p = same_owner p.owner owner

  abbrev pub picks_not : Whose → Pending T → Bool
  picks_not whose p = not (picks whose p)

  -- an ended token goes to the callers, or to the driver above
  abbrev pub users_exit : Pending T → Owner → End → List (Done T)
  users_exit p (User token) end = record { ticket = p.ticket; child = p.child; token = token; end = end; work = p.work } ∷ []
  users_exit p (Upper proto waits) end = []

  abbrev pub uppers_exit : Pending T → Owner → End → List (Raised T)
  uppers_exit p (User token) end = []
  uppers_exit p (Upper proto waits) end = record { ticket = p.ticket; child = p.child; proto = proto; waits = waits; end = end; work = p.work } ∷ []

  abbrev pub to_users : Pending T → End → List (Done T)
  to_users p end = users_exit p p.owner end

  abbrev pub to_uppers : Pending T → End → List (Raised T)
  to_uppers p end = uppers_exit p p.owner end

  -- these tokens, ended as aborted, one after another
  abbrev pub users_of : List (Pending T) → List (Done T)
  users_of [] = []
  users_of (p ∷ ps) = to_users p Aborted ++ users_of ps

  abbrev pub uppers_of : List (Pending T) → List (Raised T)
  uppers_of [] = []
  uppers_of (p ∷ ps) = to_uppers p Aborted ++ uppers_of ps

  abbrev pub with_work : Pending T → T → Pending T
  with_work p work = record { ticket = p.ticket; child = p.child; owner = p.owner; work = work }
