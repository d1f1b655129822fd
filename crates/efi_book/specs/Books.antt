-- What a contract sees of a book.
use Rattle.std.specs.Prelude.{◌≡◌, ℕ, ◌+◌, ◌-◌, ◌^◌, Bool, ◌&&◌, nat_le, is_none, List, [], ◌∷◌, ◌++◌, filter, count_by, Option, Some, None, option_map, slice_get, slice_set as set, drop}
use Rattle.std.specs.List.{position, remove, sum_by}
use Rattle.efi_base.specs.declared.tokens.ChildId.{ChildId}
use Rattle.efi_base.specs.declared.tokens.Ticket.{Ticket}
use Rattle.efi_base.specs.declared.tokens.TokenId.{TokenId}
use Rattle.efi_base.specs.declared.tokens.Owner.{Owner}
use Rattle.efi_base.specs.declared.tokens.Owner.TheVariants.{User, Upper}
use Rattle.efi_base.specs.declared.tokens.End.{End}
use Rattle.efi_base.specs.declared.tokens.End.TheVariants.{Aborted}
use Rattle.efi_base.specs.declared.refuse.Refuse.{Refuse}
use Rattle.efi_base.specs.declared.refuse.Refuse.TheVariants.{NotFound, NotReady, Exhausted}
use Rattle.efi_base.specs.Refusals.{first_of, refuse_if}
use Rattle.efi_book.specs.declared.ends.Pending.{Pending}
use Rattle.efi_book.specs.declared.ends.Done.{Done}
use Rattle.efi_book.specs.declared.ends.Raised.{Raised}
use Rattle.efi_book.specs.declared.ends.Whose.{Whose}
use Rattle.efi_book.specs.declared.ends.Whose.TheVariants.{Child, Owner as OwnedBy}
use Rattle.efi_book.specs.Firsts.{first_by}
use Rattle.efi_book.specs.Owners.{is_user, counts}
use Rattle.efi_book.specs.Pendings.{is_of, is_at, is_childs, is_token, is_kind, picks, picks_not, to_users, to_uppers, users_of, uppers_of, with_work}

-- the tokens that are pending, oldest first; the callers' that have ended, and those of drivers above, each first
-- end first; the next ticket; and how many further tokens need no memory
pub record Tokens (T : Type 0) : Type 0 where
  pub pending : List (Pending T)
  pub done : List (Done T)
  pub ups : List (Raised T)
  pub next : ℕ
  pub spare : ℕ

module _ {T : Type 0} where
  abbrev pub no_tokens : Tokens T
  no_tokens = record { pending = []; done = []; ups = []; next = 1; spare = 0 }

  abbrev pub no_tokens_from : ℕ → Tokens T
  no_tokens_from next = record { pending = []; done = []; ups = []; next = next; spare = 0 }

  -- why a token isn't accepted, but for want of memory
  abbrev pub accept_refusal : Tokens T → ChildId → Owner → Option Refuse
  accept_refusal s child owner =
      first_of
      (refuse_if (is_user owner && nat_le 64 (count_by (is_of child) s.pending)) NotReady)
      (refuse_if (nat_le (2 ^ 64 - 1) s.next) Exhausted)

  -- one more token, the newest
  abbrev pub with_pending : Tokens T → ChildId → Owner → T → Tokens T
  with_pending s child owner work = record {
    pending = s.pending ++ record { ticket = record { 0 = s.next }; child = child; owner = owner; work = work } ∷ [];
    done = s.done;
    ups = s.ups;
    next = s.next + 1;
    spare = s.spare;
  }

  abbrev pub with_spare : Tokens T → ℕ → Tokens T
  with_spare s n = record { pending = s.pending; done = s.done; ups = s.ups; next = s.next; spare = n }

  -- the token at this place ends, with another work
  abbrev pub left_at : Tokens T → ℕ → Option (Pending T) → End → (T → T) → Tokens T
  left_at s k None end change = s
  left_at s k (Some p) end change = record {
    pending = remove s.pending k;
    done = s.done ++ to_users (with_work p (change p.work)) end;
    ups = s.ups ++ to_uppers (with_work p (change p.work)) end;
    next = s.next;
    spare = s.spare;
  }

  abbrev pub ended_at : Tokens T → Option ℕ → End → (T → T) → Tokens T
  ended_at s None end change = s
  ended_at s (Some k) end change = left_at s k (slice_get s.pending k) end change

  -- the first pending token that passes the test ends, if there is one
  abbrev pub ended_with : Tokens T → (Pending T → Bool) → End → (T → T) → Tokens T
  ended_with s test end change = ended_at s (position test s.pending) end change

  abbrev pub ended : Tokens T → (Pending T → Bool) → End → Tokens T
  ended s test end = ended_with s test end (λ w. w)

  -- the pending token with this ticket ends
  abbrev pub completed : Tokens T → Ticket → End → Tokens T
  completed s ticket end = ended s (is_at ticket) end

  abbrev pub completed_with : Tokens T → Ticket → End → T → Tokens T
  completed_with s ticket end work = ended_with s (is_at ticket) end (λ _. work)

  -- every pending token that is meant ends as aborted
  abbrev pub aborted : Tokens T → Whose → Tokens T
  aborted s whose = record {
    pending = filter (picks_not whose) s.pending;
    done = s.done ++ users_of (filter (picks whose) s.pending);
    ups = s.ups ++ uppers_of (filter (picks whose) s.pending);
    next = s.next;
    spare = s.spare;
  }

  abbrev pub child_aborted : Tokens T → ChildId → Tokens T
  child_aborted s child = aborted s (Child child)

  abbrev pub owner_aborted : Tokens T → Owner → Tokens T
  owner_aborted s owner = aborted s (OwnedBy owner)

  abbrev pub found_by : Tokens T → (Pending T → Bool) → Option Refuse
  found_by s test = refuse_if (is_none (position test s.pending)) NotFound

  -- a token that isn't pending on the child isn't found
  abbrev pub cancel_refusal : Tokens T → ChildId → Ticket → Option Refuse
  cancel_refusal s child ticket = found_by s (is_childs child ticket)

  abbrev pub cancelled : Tokens T → ChildId → Ticket → Tokens T
  cancelled s child ticket = ended s (is_childs child ticket) Aborted

  abbrev pub token_refusal : Tokens T → ChildId → TokenId → Option Refuse
  token_refusal s child token = found_by s (is_token child token)

  abbrev pub token_cancelled : Tokens T → ChildId → TokenId → Tokens T
  token_cancelled s child token = ended s (is_token child token) Aborted

  abbrev pub ticket_of : Option (Pending T) → Option Ticket
  ticket_of o = option_map (λ (p : Pending T). p.ticket) o

  -- the oldest pending token of the child, and the oldest of a kind
  abbrev pub oldest_of : Tokens T → ChildId → Option Ticket
  oldest_of s child = ticket_of (first_by (is_of child) s.pending)

  abbrev pub oldest_kind_of : (T → ℕ) → Tokens T → ChildId → ℕ → Option Ticket
  oldest_kind_of kind_of s child kind = ticket_of (first_by (is_kind kind_of child kind) s.pending)

  -- the work of a pending token
  abbrev pub work_of : Tokens T → Ticket → Option T
  work_of s ticket = option_map (λ (p : Pending T). p.work) (first_by (is_at ticket) s.pending)

  abbrev pub set_at : Tokens T → ℕ → Option (Pending T) → T → Tokens T
  set_at s k None work = s
  set_at s k (Some p) work = record {
    pending = set s.pending k (with_work p work);
    done = s.done;
    ups = s.ups;
    next = s.next;
    spare = s.spare;
  }

  abbrev pub put_at : Tokens T → Option ℕ → T → Tokens T
  put_at s None work = s
  put_at s (Some k) work = set_at s k (slice_get s.pending k) work

  -- the pending token has another work
  abbrev pub work_put : Tokens T → Ticket → T → Tokens T
  work_put s ticket work = put_at s (position (is_at ticket) s.pending) work

  -- without the token that ended first
  abbrev pub without_done : Tokens T → Tokens T
  without_done s = record { pending = s.pending; done = drop 1 s.done; ups = s.ups; next = s.next; spare = s.spare }

  abbrev pub without_up : Tokens T → Tokens T
  without_up s = record { pending = s.pending; done = s.done; ups = drop 1 s.ups; next = s.next; spare = s.spare }

  -- how often a token of this owner is here, pending or ended and not taken
  abbrev pub times : Owner → Tokens T → ℕ
  times o s =
      sum_by (λ (p : Pending T). counts o p.owner) s.pending
      + sum_by (λ (d : Done T). counts o (User d.token)) s.done
      + sum_by (λ (d : Raised T). counts o (Upper d.proto d.waits)) s.ups

  -- how many tokens of this owner are taken out with an answer
  abbrev pub given : Owner → Option (Done T) → ℕ
  given o None = 0
  given o (Some d) = counts o (User d.token)

  abbrev pub given_up : Owner → Option (Raised T) → ℕ
  given_up o None = 0
  given_up o (Some d) = counts o (Upper d.proto d.waits)

-- no token is lost or doubled
abbrev pub Keeps : {T : Type 0} → Tokens T → Tokens T → Type 0
Keeps before after = (o : Owner) → times o after ≡ times o before
