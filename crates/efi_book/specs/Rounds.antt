-- Tokens that end one after another, the oldest first.
use Rattle.std.specs.Prelude.{◌≡◌, refl, ℕ, ◌-◌, ◌<◌, zero, suc, Bool, length, Option, Some, None}
use Rattle.std.proofs.Common.{sym, ap, ◌∙◌, arith}
use Rattle.efi_base.specs.declared.tokens.End.{End}
use Rattle.efi_base.specs.declared.tokens.Ticket.{Ticket}
use Rattle.efi_book.specs.declared.ends.Pending.{Pending}
use Rattle.efi_book.specs.Books.{Tokens, completed, ticket_of}
use Rattle.efi_book.specs.Firsts.{first_by}

module _ {W : Type 0} where
  abbrev pub ended_as : End → Option Ticket → Tokens W → Tokens W
  ended_as end None ts = ts
  ended_as end (Some t) ts = completed ts t end

  -- the oldest pending token that passes the test ends, if there is one
  abbrev pub one_ended : (Pending W → Bool) → End → Tokens W → Tokens W
  one_ended test end ts = ended_as end (ticket_of (first_by test ts.pending)) ts

  -- so many times
  abbrev pub rounds : (Pending W → Bool) → End → ℕ → Tokens W → Tokens W
  rounds test end zero ts = ts
  rounds test end (suc n) ts = rounds test end n (one_ended test end ts)

  -- as often as there are tokens, so until none is pending that passes it
  abbrev pub all_ended : (Pending W → Bool) → End → Tokens W → Tokens W
  all_ended test end ts = rounds test end (length ts.pending) ts

  -- where no token passes the test, none ends
  pub no_rounds : (test : Pending W → Bool) (end : End) (n : ℕ) (ts : Tokens W) → first_by test ts.pending ≡ None → rounds test end n ts ≡ ts
  no_rounds test end zero ts h = refl
  no_rounds test end (suc n) ts h =
      ap (λ o. rounds test end n (ended_as end (ticket_of o) ts)) h ∙ no_rounds test end n ts h

  -- the oldest of these ends, and then the others
  pub round_more : (test : Pending W → Bool) (end : End) (n : ℕ) (ts more whole : Tokens W) (t : Ticket) → 0 < n
      → ticket_of (first_by test ts.pending) ≡ Some t → more ≡ completed ts t end → rounds test end n ts ≡ whole
      → rounds test end (n - 1) more ≡ whole
  round_more test end zero ts more whole t h f is e = absurd (omega (arith, h))
  round_more test end (suc n) ts more whole t h f is e =
      let less : suc n - 1 ≡ n = omega arith in
      ap (λ j. rounds test end j more) less
      ∙ ap (rounds test end n) (is ∙ sym (ap (λ o. ended_as end o ts) f))
      ∙ e

  -- where none is left, the others are none
  pub round_rest : (test : Pending W → Bool) (end : End) (n : ℕ) (ts whole : Tokens W) → ticket_of (first_by test ts.pending) ≡ None
      → rounds test end n ts ≡ whole → ts ≡ whole
  round_rest test end zero ts whole f e = e
  round_rest test end (suc n) ts whole f e =
      round_rest test end n ts whole f (sym (ap (λ o. rounds test end n (ended_as end o ts)) f) ∙ e)
