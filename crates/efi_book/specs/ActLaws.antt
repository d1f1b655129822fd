-- The law of a book over every list of acts: tokens are numbered in the order of acceptance, and each is pending or
-- ended, once.
use Rattle.std.specs.Prelude.{◌≡◌, refl, ℕ, ◌+◌, ◌≤◌, ◌==◌, nat_lt, List, [], ◌∷◌, drop, slice_get, Option, Some, None, if◌then◌else◌}
use Rattle.std.specs.List.{sum_by, position}
use Rattle.std.proofs.Common.{◌∙◌, ap, arith}
use Rattle.std.proofs.lemmas.List.Sums.{sum_by-cons}
use Rattle.std.proofs.lemmas.Bool.Decides.{nat_tests}
use Rattle.efi_base.specs.declared.tokens.ChildId.{ChildId}
use Rattle.efi_base.specs.declared.tokens.Ticket.{Ticket}
use Rattle.efi_base.specs.declared.tokens.Owner.{Owner}
use Rattle.efi_base.specs.declared.tokens.End.{End}
use Rattle.efi_base.specs.declared.tokens.End.TheVariants.{Aborted}
use Rattle.efi_book.specs.declared.ends.Pending.{Pending}
use Rattle.efi_book.specs.declared.ends.Done.{Done}
use Rattle.efi_book.specs.declared.ends.Raised.{Raised}
use Rattle.efi_book.specs.declared.ends.Whose.TheVariants.{Child, Owner as OwnedBy}
use Rattle.efi_book.specs.Pendings.{is_at, is_childs, is_token}
use Rattle.efi_book.specs.Books.{Tokens, no_tokens_from, left_at, ended_at, set_at, put_at}
use Rattle.efi_book.specs.Conserves.{at_users, at_uppers, total_accepted, total_ended, total_aborted, total_put}
use Rattle.efi_book.specs.Acts.{Act, Accepted, Ended, Stopped, Cancelled, TokenCancelled, Withdrawn, Reworked, Reserved, Taken, TakenUp, after, runs, same_ticket, held, first_done, first_up, takes, accepts, all_takes, all_accepts, given_out}

abbrev weight : ℕ → Ticket → ChildId → Owner → ℕ
weight n t c o = same_ticket n t

plain : (a b : ℕ) → a ≡ b → a + 0 ≡ b + 0
plain a b e = omega (arith, e)

one-more : (n m : ℕ) → (if nat_lt n (m + 1) then 1 else 0) ≡ (if nat_lt n m then 1 else 0) + (if m == n then 1 else 0)
one-more n m = grind (arith, nat_tests)

as-before : (n a b : ℕ) → a ≡ b → (if nat_lt n a then 1 else 0) ≡ (if nat_lt n b then 1 else 0) + 0
as-before n a b e = ap (λ m. if nat_lt n m then 1 else 0) e ∙ omega arith

module _ {T : Type 0} (n : ℕ) where
  done-out : (ds : List (Done T)) → sum_by (at_users {T = T} (weight n)) (drop 1 ds) + first_done n ds ≡ sum_by (at_users {T = T} (weight n)) ds
  done-out [] = refl
  done-out (d ∷ ds) =
      let less : drop 1 (d ∷ ds) ≡ ds = refl in
      ap (λ l. sum_by (at_users {T = T} (weight n)) l + same_ticket n d.ticket) less ∙ omega (arith, sum_by-cons (at_users {T = T} (weight n)) d ds)

  ups-out : (ds : List (Raised T)) → sum_by (at_uppers {T = T} (weight n)) (drop 1 ds) + first_up n ds ≡ sum_by (at_uppers {T = T} (weight n)) ds
  ups-out [] = refl
  ups-out (d ∷ ds) =
      let less : drop 1 (d ∷ ds) ≡ ds = refl in
      ap (λ l. sum_by (at_uppers {T = T} (weight n)) l + same_ticket n d.ticket) less ∙ omega (arith, sum_by-cons (at_uppers {T = T} (weight n)) d ds)

  act_keeps : (s : Tokens T) (a : Act T) → held n (after s a) + takes n s a ≡ held n s + accepts n s a
  act_keeps s (Accepted child owner work) = omega (arith, total_accepted (weight n) s child owner work)
  act_keeps s (Ended ticket end work) = plain _ _ (total_ended (weight n) s (is_at ticket) end (λ _. work))
  act_keeps s (Stopped child) = plain _ _ (total_aborted (weight n) s (Child child))
  act_keeps s (Cancelled child ticket) = plain _ _ (total_ended (weight n) s (is_childs child ticket) Aborted (λ w. w))
  act_keeps s (TokenCancelled child token) = plain _ _ (total_ended (weight n) s (is_token child token) Aborted (λ w. w))
  act_keeps s (Withdrawn owner) = plain _ _ (total_aborted (weight n) s (OwnedBy owner))
  act_keeps s (Reworked ticket work) = plain _ _ (total_put (weight n) s ticket work)
  act_keeps s (Reserved k) = refl
  act_keeps s Taken = omega (arith, done-out s.done)
  act_keeps s TakenUp = omega (arith, ups-out s.ups)

  -- over a list of acts, what was accepted is here or was taken
  pub runs_keep : (s : Tokens T) (acts : List (Act T)) → held n (runs s acts) + all_takes n s acts ≡ held n s + all_accepts n s acts
  runs_keep s [] = refl
  runs_keep s (a ∷ acts) = omega (arith, act_keeps s a, runs_keep (after s a) acts)

  next-left : (s : Tokens T) (k : ℕ) (found : Option (Pending T)) (end : End) (change : T → T) → (left_at s k found end change).next ≡ s.next
  next-left s k None end change = refl
  next-left s k (Some p) end change = refl

  next-ended : (s : Tokens T) (k : Option ℕ) (end : End) (change : T → T) → (ended_at s k end change).next ≡ s.next
  next-ended s None end change = refl
  next-ended s (Some k) end change = next-left s k (slice_get s.pending k) end change

  next-set : (s : Tokens T) (k : ℕ) (found : Option (Pending T)) (work : T) → (set_at s k found work).next ≡ s.next
  next-set s k None work = refl
  next-set s k (Some p) work = refl

  next-put : (s : Tokens T) (k : Option ℕ) (work : T) → (put_at s k work).next ≡ s.next
  next-put s None work = refl
  next-put s (Some k) work = next-set s k (slice_get s.pending k) work

  act_numbers : (s : Tokens T) (a : Act T) → given_out n (after s a) ≡ given_out n s + accepts n s a
  act_numbers s (Accepted child owner work) = one-more n s.next
  act_numbers s (Ended ticket end work) = as-before n _ _ (next-ended s (position (is_at ticket) s.pending) end (λ _. work))
  act_numbers s (Stopped child) = as-before n s.next s.next refl
  act_numbers s (Cancelled child ticket) = as-before n _ _ (next-ended s (position (is_childs child ticket) s.pending) Aborted (λ w. w))
  act_numbers s (TokenCancelled child token) = as-before n _ _ (next-ended s (position (is_token child token) s.pending) Aborted (λ w. w))
  act_numbers s (Withdrawn owner) = as-before n s.next s.next refl
  act_numbers s (Reworked ticket work) = as-before n _ _ (next-put s (position (is_at ticket) s.pending) work)
  act_numbers s (Reserved k) = as-before n s.next s.next refl
  act_numbers s Taken = as-before n s.next s.next refl
  act_numbers s TakenUp = as-before n s.next s.next refl

  -- tokens are numbered in the order of acceptance: each ticket is given out once, and all below the next one are
  pub runs_number : (s : Tokens T) (acts : List (Act T)) → given_out n (runs s acts) ≡ given_out n s + all_accepts n s acts
  runs_number s [] = omega arith
  runs_number s (a ∷ acts) = omega (arith, act_numbers s a, runs_number (after s a) acts)

  -- from the start on, the token of each ticket that was given out is pending, ended or taken, once
  pub each_once : (first : ℕ) (acts : List (Act T)) → first ≤ n
      → held n (runs (no_tokens_from first) acts) + all_takes n (no_tokens_from first) acts ≡ given_out n (runs (no_tokens_from first) acts)
  each_once first acts up =
      let none : given_out n (no_tokens_from {T = T} first) ≡ 0 = grind (arith, nat_tests) in
      omega (arith, runs_keep (no_tokens_from first) acts, runs_number (no_tokens_from first) acts, none)
