-- What may happen to a book, one act after another.
use Rattle.std.specs.Prelude.{ℕ, ◌+◌, Bool, true, false, ◌==◌, nat_lt, List, [], ◌∷◌, if◌then◌else◌}
use Rattle.efi_base.specs.declared.tokens.ChildId.{ChildId}
use Rattle.efi_base.specs.declared.tokens.Ticket.{Ticket}
use Rattle.efi_base.specs.declared.tokens.TokenId.{TokenId}
use Rattle.efi_base.specs.declared.tokens.Owner.{Owner}
use Rattle.efi_base.specs.declared.tokens.End.{End}
use Rattle.efi_base.specs.declared.tokens.End.TheVariants.{Aborted}
use Rattle.efi_book.specs.declared.ends.Done.{Done}
use Rattle.efi_book.specs.declared.ends.Raised.{Raised}
use Rattle.efi_book.specs.Books.{Tokens, with_pending, with_spare, completed_with, child_aborted, owner_aborted, cancelled, token_cancelled, work_put, without_done, without_up}
use Rattle.efi_book.specs.Conserves.{total}

-- an accepted call, or what a driver does by itself; a refused call is no act
pub data Act (T : Type 0) : Type 0 where
  Accepted : ChildId → Owner → T → Act T
  -- a token ends otherwise than by an abort
  Ended : Ticket → End → T → Act T
  -- cancel of all, reset or destroy of a child
  Stopped : ChildId → Act T
  Cancelled : ChildId → Ticket → Act T
  TokenCancelled : ChildId → TokenId → Act T
  -- what an owner waits for is withdrawn
  Withdrawn : Owner → Act T
  Reworked : Ticket → T → Act T
  Reserved : ℕ → Act T
  Taken : Act T
  TakenUp : Act T

abbrev pub same_ticket : ℕ → Ticket → ℕ
same_ticket n t = if t.0 == n then 1 else 0

module _ {T : Type 0} where
  abbrev pub after : Tokens T → Act T → Tokens T
  after s (Accepted child owner work) = with_pending s child owner work
  after s (Ended ticket end work) = completed_with s ticket end work
  after s (Stopped child) = child_aborted s child
  after s (Cancelled child ticket) = cancelled s child ticket
  after s (TokenCancelled child token) = token_cancelled s child token
  after s (Withdrawn owner) = owner_aborted s owner
  after s (Reworked ticket work) = work_put s ticket work
  after s (Reserved n) = with_spare s n
  after s Taken = without_done s
  after s TakenUp = without_up s

  -- the book after a whole list of acts
  abbrev pub runs : Tokens T → List (Act T) → Tokens T
  runs s [] = s
  runs s (a ∷ acts) = runs (after s a) acts

  -- how often the token of this ticket is here, pending or ended and not taken
  abbrev pub held : ℕ → Tokens T → ℕ
  held n s = total (λ t c o. same_ticket n t) s

  abbrev pub first_done : ℕ → List (Done T) → ℕ
  first_done n [] = 0
  first_done n (d ∷ ds) = same_ticket n d.ticket

  abbrev pub first_up : ℕ → List (Raised T) → ℕ
  first_up n [] = 0
  first_up n (d ∷ ds) = same_ticket n d.ticket

  -- how often an act takes the token of this ticket out
  abbrev pub takes : ℕ → Tokens T → Act T → ℕ
  takes n s Taken = first_done n s.done
  takes n s TakenUp = first_up n s.ups
  takes n s a = 0

  -- how often an act accepts a token under this ticket
  abbrev pub accepts : ℕ → Tokens T → Act T → ℕ
  accepts n s (Accepted child owner work) = same_ticket n (record { 0 = s.next })
  accepts n s a = 0

  abbrev pub all_takes : ℕ → Tokens T → List (Act T) → ℕ
  all_takes n s [] = 0
  all_takes n s (a ∷ acts) = takes n s a + all_takes n (after s a) acts

  abbrev pub all_accepts : ℕ → Tokens T → List (Act T) → ℕ
  all_accepts n s [] = 0
  all_accepts n s (a ∷ acts) = accepts n s a + all_accepts n (after s a) acts

  -- whether a ticket was given out
  abbrev pub given_out : ℕ → Tokens T → ℕ
  given_out n s = if nat_lt n s.next then 1 else 0

abbrev pub is_aborted : End → Bool
is_aborted Aborted = true
is_aborted end = false
