-- Nothing but an abort ends a token as aborted.
use Rattle.std.specs.Prelude.{◌≡◌, refl, ℕ, ◌+◌, ◌≤◌, Bool, true, false, List, [], ◌∷◌, drop, Option, Some, None, slice_get, if◌then◌else◌}
use Rattle.std.specs.List.{position, sum_by}
use Rattle.std.proofs.Common.{ap, arith}
use Rattle.std.proofs.lemmas.List.Sums.{sum_by-append, sum_by-cons}
use Rattle.efi_base.specs.declared.tokens.Owner.{Owner}
use Rattle.efi_base.specs.declared.tokens.Owner.TheVariants.{User, Upper}
use Rattle.efi_base.specs.declared.tokens.End.{End}
use Rattle.efi_book.specs.declared.ends.Pending.{Pending}
use Rattle.efi_book.specs.declared.ends.Done.{Done}
use Rattle.efi_book.specs.declared.ends.Raised.{Raised}
use Rattle.efi_book.specs.Pendings.{is_at, users_exit, uppers_exit, to_users, to_uppers, with_work}
use Rattle.efi_book.specs.Books.{Tokens, left_at, ended_at, set_at, put_at}
use Rattle.efi_book.specs.Acts.{Act, Accepted, Ended, Stopped, Cancelled, TokenCancelled, Withdrawn, Reworked, Reserved, Taken, TakenUp, after, is_aborted}

abbrev pub one_aborted : End → ℕ
one_aborted end = if is_aborted end then 1 else 0

module _ {T : Type 0} where
  -- a cancel, a stop, a withdrawal, or an end that is said to be an abort
  abbrev pub aborts : Act T → Bool
  aborts (Accepted child owner work) = false
  aborts (Ended ticket end work) = is_aborted end
  aborts (Stopped child) = true
  aborts (Cancelled child ticket) = true
  aborts (TokenCancelled child token) = true
  aborts (Withdrawn owner) = true
  aborts (Reworked ticket work) = false
  aborts (Reserved n) = false
  aborts Taken = false
  aborts TakenUp = false

  abbrev pub done_aborted : List (Done T) → ℕ
  done_aborted ds = sum_by (λ (d : Done T). one_aborted d.end) ds

  abbrev pub ups_aborted : List (Raised T) → ℕ
  ups_aborted ds = sum_by (λ (d : Raised T). one_aborted d.end) ds

  -- how many tokens that ended as aborted are here
  abbrev pub aborted_ends : Tokens T → ℕ
  aborted_ends s = done_aborted s.done + ups_aborted s.ups

  exit-none : (p : Pending T) (o : Owner) (end : End) → one_aborted end ≡ 0
      → done_aborted (users_exit p o end) + ups_aborted (uppers_exit p o end) ≡ 0
  exit-none p (User t) end h = omega (arith, h)
  exit-none p (Upper proto waits) end h = omega (arith, h)

  left-others : (s : Tokens T) (k : ℕ) (found : Option (Pending T)) (end : End) (change : T → T) → one_aborted end ≡ 0
      → aborted_ends (left_at s k found end change) ≤ aborted_ends s
  left-others s k None end change h = omega arith
  left-others s k (Some p) end change h =
      let q : Pending T = with_work p (change p.work) in
      omega (
        arith,
        exit-none q p.owner end h,
        sum_by-append (λ (d : Done T). one_aborted d.end) s.done (to_users q end),
        sum_by-append (λ (d : Raised T). one_aborted d.end) s.ups (to_uppers q end),
      )

  ended-others : (s : Tokens T) (k : Option ℕ) (end : End) (change : T → T) → one_aborted end ≡ 0
      → aborted_ends (ended_at s k end change) ≤ aborted_ends s
  ended-others s None end change h = omega arith
  ended-others s (Some k) end change h = left-others s k (slice_get s.pending k) end change h

  set-others : (s : Tokens T) (k : ℕ) (found : Option (Pending T)) (work : T) → aborted_ends (set_at s k found work) ≤ aborted_ends s
  set-others s k None work = omega arith
  set-others s k (Some p) work = omega arith

  put-others : (s : Tokens T) (k : Option ℕ) (work : T) → aborted_ends (put_at s k work) ≤ aborted_ends s
  put-others s None work = omega arith
  put-others s (Some k) work = set-others s k (slice_get s.pending k) work

  fewer-done : (ds : List (Done T)) → done_aborted (drop 1 ds) ≤ done_aborted ds
  fewer-done [] = omega arith
  fewer-done (d ∷ ds) =
      let less : done_aborted (drop 1 (d ∷ ds)) ≡ done_aborted ds = refl in
      omega (arith, less, sum_by-cons (λ (e : Done T). one_aborted e.end) d ds)

  fewer-ups : (ds : List (Raised T)) → ups_aborted (drop 1 ds) ≤ ups_aborted ds
  fewer-ups [] = omega arith
  fewer-ups (d ∷ ds) =
      let less : ups_aborted (drop 1 (d ∷ ds)) ≡ ups_aborted ds = refl in
      omega (arith, less, sum_by-cons (λ (e : Raised T). one_aborted e.end) d ds)

  -- no other act brings an end as aborted
  pub no_others : (s : Tokens T) (a : Act T) → aborts a ≡ false → aborted_ends (after s a) ≤ aborted_ends s
  no_others s (Accepted child owner work) h = omega arith
  no_others s (Ended ticket end work) h =
      ended-others s (position (is_at ticket) s.pending) end (λ _. work) (ap (λ b. if b then 1 else 0) h)
  no_others s (Stopped child) h = cc
  no_others s (Cancelled child ticket) h = cc
  no_others s (TokenCancelled child token) h = cc
  no_others s (Withdrawn owner) h = cc
  no_others s (Reworked ticket work) h = put-others s (position (is_at ticket) s.pending) work
  no_others s (Reserved n) h = omega arith
  no_others s Taken h = omega (arith, fewer-done s.done)
  no_others s TakenUp h = omega (arith, fewer-ups s.ups)
