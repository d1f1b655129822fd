-- No call loses or doubles a token, by whatever it is told apart: its ticket, its child, its owner.
use Rattle.std.specs.Prelude.{◌≡◌, refl, ℕ, ◌+◌, Bool, true, false, not, List, [], ◌∷◌, filter, Option, Some, None, slice_get, get_or, drop, if◌then◌else◌}
use Rattle.std.specs.List.{position, sum_by}
use Rattle.std.proofs.Common.{sym, ◌∙◌, ap, arith}
use Rattle.std.proofs.lemmas.List.Sums.{sum_by-append, sum_by-remove, sum_by-set, sum_by-cons}
use Rattle.std.proofs.lemmas.Option.{slice_get_within, get_or_from_slice_get}
use Rattle.efi_base.specs.declared.tokens.ChildId.{ChildId}
use Rattle.efi_base.specs.declared.tokens.Ticket.{Ticket}
use Rattle.efi_base.specs.declared.tokens.Owner.{Owner}
use Rattle.efi_base.specs.declared.tokens.Owner.TheVariants.{User, Upper}
use Rattle.efi_base.specs.declared.tokens.End.{End}
use Rattle.efi_base.specs.declared.tokens.End.TheVariants.{Aborted}
use Rattle.efi_book.specs.declared.ends.Pending.{Pending}
use Rattle.efi_book.specs.declared.ends.Done.{Done}
use Rattle.efi_book.specs.declared.ends.Raised.{Raised}
use Rattle.efi_book.specs.declared.ends.Whose.{Whose}
use Rattle.efi_book.specs.Owners.{counts}
use Rattle.efi_book.specs.Pendings.{is_at, picks, picks_not, users_exit, uppers_exit, to_users, to_uppers, users_of, uppers_of, with_work}
use Rattle.efi_book.specs.Books.{Tokens, with_pending, left_at, ended_at, ended_with, aborted, set_at, put_at, work_put, without_done, without_up, times, given, given_up}

module _ {T : Type 0} (weigh : Ticket → ChildId → Owner → ℕ) where
  abbrev pub here : Pending T → ℕ
  here p = weigh p.ticket p.child p.owner

  abbrev pub at_users : Done T → ℕ
  at_users d = weigh d.ticket d.child (User d.token)

  abbrev pub at_uppers : Raised T → ℕ
  at_uppers d = weigh d.ticket d.child (Upper d.proto d.waits)

  -- the weight of all tokens that are here, pending or ended and not taken
  abbrev pub total : Tokens T → ℕ
  total s = sum_by here s.pending + sum_by at_users s.done + sum_by at_uppers s.ups

  -- an ended token is at one exit
  exit-sum : (p : Pending T) (q : Owner) (end : End)
      → sum_by at_users (users_exit p q end) + sum_by at_uppers (uppers_exit p q end) ≡ weigh p.ticket p.child q
  exit-sum p (User t) end = omega arith
  exit-sum p (Upper proto waits) end = omega arith

  -- a token that is accepted counts for its owner
  pub total_accepted : (s : Tokens T) (child : ChildId) (q : Owner) (work : T)
      → total (with_pending s child q work) ≡ total s + weigh (record { 0 = s.next }) child q
  total_accepted s child q work =
      let p : Pending T = record { ticket = record { 0 = s.next }; child = child; owner = q; work = work } in
      omega (arith, sum_by-append here s.pending (p ∷ []))

  left-keeps : (s : Tokens T) (k : ℕ) (found : Option (Pending T)) (end : End) (change : T → T) → slice_get s.pending k ≡ found
      → total (left_at s k found end change) ≡ total s
  left-keeps s k None end change e = refl
  left-keeps s k (Some p) end change e =
      let removed = sum_by-remove here s.pending k p (slice_get_within s.pending k p e) in
      let at : here (get_or s.pending k p) ≡ here p = ap here (get_or_from_slice_get s.pending k p p e) in
      let q : Pending T = with_work p (change p.work) in
      let gone = exit-sum q p.owner end in
      omega (arith, removed, at, gone, sum_by-append at_users s.done (to_users q end), sum_by-append at_uppers s.ups (to_uppers q end))

  at-keeps : (s : Tokens T) (k : Option ℕ) (end : End) (change : T → T) → total (ended_at s k end change) ≡ total s
  at-keeps s None end change = refl
  at-keeps s (Some k) end change = left-keeps s k (slice_get s.pending k) end change refl

  -- an end keeps each token
  pub total_ended : (s : Tokens T) (test : Pending T → Bool) (end : End) (change : T → T) → total (ended_with s test end change) ≡ total s
  total_ended s test end change = at-keeps s (position test s.pending) end change

  split-step : (b : Bool) (p : Pending T) (kept gone : List (Pending T))
      → sum_by here (if not b then p ∷ kept else kept) + (sum_by at_users (users_of (if b then p ∷ gone else gone)) + sum_by at_uppers (uppers_of (if b then p ∷ gone else gone)))
      ≡ here p + (sum_by here kept + (sum_by at_users (users_of gone) + sum_by at_uppers (uppers_of gone)))
  split-step true p kept gone =
      omega (arith, exit-sum p p.owner Aborted, sum_by-append at_users (to_users p Aborted) (users_of gone), sum_by-append at_uppers (to_uppers p Aborted) (uppers_of gone))
  split-step false p kept gone = omega (arith, sum_by-cons here p kept)

  split : (whose : Whose) (ps : List (Pending T))
      → sum_by here (filter (picks_not whose) ps) + (sum_by at_users (users_of (filter (picks whose) ps)) + sum_by at_uppers (uppers_of (filter (picks whose) ps))) ≡ sum_by here ps
  split whose [] = refl
  split whose (p ∷ ps) =
      split-step (picks whose p) p (filter (picks_not whose) ps) (filter (picks whose) ps)
      ∙ ap (λ n. here p + n) (split whose ps)
      ∙ sym (sum_by-cons here p ps)

  -- an abort keeps each token
  pub total_aborted : (s : Tokens T) (whose : Whose) → total (aborted s whose) ≡ total s
  total_aborted s whose =
      let gone : List (Pending T) = filter (picks whose) s.pending in
      omega (arith, split whose s.pending, sum_by-append at_users s.done (users_of gone), sum_by-append at_uppers s.ups (uppers_of gone))

  set-keeps : (s : Tokens T) (k : ℕ) (found : Option (Pending T)) (work : T) → slice_get s.pending k ≡ found → total (set_at s k found work) ≡ total s
  set-keeps s k None work e = refl
  set-keeps s k (Some p) work e =
      let changed = sum_by-set here s.pending k (with_work p work) p (slice_get_within s.pending k p e) in
      let at : here (get_or s.pending k p) ≡ here p = ap here (get_or_from_slice_get s.pending k p p e) in
      omega (arith, changed, at)

  put-keeps : (s : Tokens T) (k : Option ℕ) (work : T) → total (put_at s k work) ≡ total s
  put-keeps s None work = refl
  put-keeps s (Some k) work = set-keeps s k (slice_get s.pending k) work refl

  -- another work keeps each token
  pub total_put : (s : Tokens T) (ticket : Ticket) (work : T) → total (work_put s ticket work) ≡ total s
  total_put s ticket work = put-keeps s (position (is_at ticket) s.pending) work

  -- an ended token that is taken is there no more
  pub done_taken : (ds : List (Done T)) (d : Done T) → Some d ≡ slice_get ds 0 → sum_by at_users (drop 1 ds) + at_users d ≡ sum_by at_users ds
  done_taken [] d h = cc
  done_taken (e ∷ ds) d h =
      let k : d ≡ e = cc in
      let m : at_users d ≡ at_users e = ap at_users k in
      let less : drop 1 (e ∷ ds) ≡ ds = refl in
      ap (λ l. sum_by at_users l + at_users d) less ∙ omega (arith, m, sum_by-cons at_users e ds)

  pub up_taken : (ds : List (Raised T)) (d : Raised T) → Some d ≡ slice_get ds 0 → sum_by at_uppers (drop 1 ds) + at_uppers d ≡ sum_by at_uppers ds
  up_taken [] d h = cc
  up_taken (e ∷ ds) d h =
      let k : d ≡ e = cc in
      let m : at_uppers d ≡ at_uppers e = ap at_uppers k in
      let less : drop 1 (e ∷ ds) ≡ ds = refl in
      ap (λ l. sum_by at_uppers l + at_uppers d) less ∙ omega (arith, m, sum_by-cons at_uppers e ds)

-- a token weighs one where this is its owner
abbrev owned : Owner → Ticket → ChildId → Owner → ℕ
owned o ticket child q = counts o q

module _ {T : Type 0} (o : Owner) where
  pub times_accepted : (s : Tokens T) (child : ChildId) (q : Owner) (work : T) → times o (with_pending s child q work) ≡ times o s + counts o q
  times_accepted s child q work = total_accepted (owned o) s child q work

  pub times_ended : (s : Tokens T) (test : Pending T → Bool) (end : End) (change : T → T) → times o (ended_with s test end change) ≡ times o s
  times_ended s test end change = total_ended (owned o) s test end change

  pub times_aborted : (s : Tokens T) (whose : Whose) → times o (aborted s whose) ≡ times o s
  times_aborted s whose = total_aborted (owned o) s whose

  pub times_put : (s : Tokens T) (ticket : Ticket) (work : T) → times o (work_put s ticket work) ≡ times o s
  times_put s ticket work = total_put (owned o) s ticket work

  pub times_taken : (s : Tokens T) (r : Option (Done T)) → r ≡ slice_get s.done 0 → times o (without_done s) + given o r ≡ times o s
  times_taken s None h = omega (arith, none-left s.done h)
    where
      none-left : (ds : List (Done T)) → None ≡ slice_get ds 0 → sum_by (λ (d : Done T). counts o (User d.token)) (drop 1 ds) ≡ sum_by (λ (d : Done T). counts o (User d.token)) ds
      none-left [] h = refl
      none-left (d ∷ ds) h = absurd (cc)
  times_taken s (Some d) h = omega (arith, done_taken (owned o) s.done d h)

  pub times_taken_up : (s : Tokens T) (r : Option (Raised T)) → r ≡ slice_get s.ups 0 → times o (without_up s) + given_up o r ≡ times o s
  times_taken_up s None h = omega (arith, none-up s.ups h)
    where
      none-up : (ds : List (Raised T)) → None ≡ slice_get ds 0 → sum_by (λ (d : Raised T). counts o (Upper d.proto d.waits)) (drop 1 ds) ≡ sum_by (λ (d : Raised T). counts o (Upper d.proto d.waits)) ds
      none-up [] h = refl
      none-up (d ∷ ds) h = absurd (cc)
  times_taken_up s (Some d) h = omega (arith, up_taken (owned o) s.ups d h)
