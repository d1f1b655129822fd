-- The abort law of a book: a cancel of all, a reset or a destroy of a child ends exactly its pending tokens, by rising
-- ticket, as aborted.
use Rattle.std.specs.Prelude.{◌≡◌, refl, ℕ, ◌+◌, ◌≤◌, zero, suc, Bool, true, false, List, [], ◌∷◌, ◌++◌, filter, Option, Some, None, slice_get, slice_set as set, if◌then◌else◌}
use Rattle.std.specs.List.{position, remove}
use Rattle.std.proofs.Common.{ap, subst, arith}
use Rattle.efi_base.specs.declared.tokens.ChildId.{ChildId}
use Rattle.efi_base.specs.declared.tokens.Owner.{Owner}
use Rattle.efi_base.specs.declared.tokens.Owner.TheVariants.{User, Upper}
use Rattle.efi_base.specs.declared.tokens.End.{End}
use Rattle.efi_base.specs.declared.tokens.End.TheVariants.{Aborted}
use Rattle.efi_book.specs.declared.ends.Pending.{Pending}
use Rattle.efi_book.specs.declared.ends.Done.{Done}
use Rattle.efi_book.specs.declared.ends.Whose.TheVariants.{Child, Owner as OwnedBy}
use Rattle.efi_book.specs.Pendings.{is_at, is_childs, is_token, picks, picks_not, users_exit, users_of, uppers_of, with_work}
use Rattle.efi_book.specs.Books.{Tokens, no_tokens_from, left_at, ended_at, set_at, put_at}
use Rattle.efi_book.specs.Acts.{Act, Accepted, Ended, Stopped, Cancelled, TokenCancelled, Withdrawn, Reworked, Reserved, Taken, TakenUp, after, runs}

module _ {T : Type 0} where
  -- the tickets rise, from `low` on, and all are below `next`
  abbrev pub Rises : ℕ → ℕ → List (Pending T) → Type 0
  Rises low next [] = low ≤ next
  Rises low next (p ∷ ps) = (low ≤ p.ticket.0) × Rises (p.ticket.0 + 1) next ps

  abbrev pub IsRisingFrom : ℕ → Tokens T → Type 0
  IsRisingFrom first s = Rises first s.next s.pending

  abbrev pub IsRising : Tokens T → Type 0
  IsRising s = IsRisingFrom 1 s

  lower : (a b next : ℕ) (ps : List (Pending T)) → a ≤ b → Rises b next ps → Rises a next ps
  lower a b next [] le h = omega (arith, le, h)
  lower a b next (p ∷ ps) le h = (omega (arith, le, h.0), h.1)

  rises_more : (low next : ℕ) (ps : List (Pending T)) (p : Pending T) → p.ticket.0 ≡ next → Rises low next ps → Rises low (next + 1) (ps ++ p ∷ [])
  rises_more low next [] p e h = (omega (arith, e, h), omega (arith, e))
  rises_more low next (q ∷ qs) p e h = (h.0, rises_more (q.ticket.0 + 1) next qs p e h.1)

  chosen : (b : Bool) (low next : ℕ) (p : Pending T) (ps : List (Pending T)) → low ≤ p.ticket.0 → Rises (p.ticket.0 + 1) next ps
      → Rises low next (if b then p ∷ ps else ps)
  chosen true low next p ps le h = (le, h)
  chosen false low next p ps le h = lower low (p.ticket.0 + 1) next ps (omega (arith, le)) h

  -- some of them still rise
  pub rises_filter : (test : Pending T → Bool) (low next : ℕ) (ps : List (Pending T)) → Rises low next ps → Rises low next (filter test ps)
  rises_filter test low next [] h = h
  rises_filter test low next (p ∷ ps) h = chosen (test p) low next p (filter test ps) h.0 (rises_filter test (p.ticket.0 + 1) next ps h.1)

  rises_remove : (low next : ℕ) (ps : List (Pending T)) (k : ℕ) → Rises low next ps → Rises low next (remove ps k)
  rises_remove low next [] zero h = h
  rises_remove low next [] (suc k) h = h
  rises_remove low next (p ∷ ps) zero h = lower low (p.ticket.0 + 1) next ps (omega (arith, h.0)) h.1
  rises_remove low next (p ∷ ps) (suc k) h = (h.0, rises_remove (p.ticket.0 + 1) next ps k h.1)

  rises_set : (low next : ℕ) (ps : List (Pending T)) (k : ℕ) (p : Pending T) (work : T) → slice_get ps k ≡ Some p → Rises low next ps
      → Rises low next (set ps k (with_work p work))
  rises_set low next [] zero p work e h = cc
  rises_set low next [] (suc k) p work e h = cc
  rises_set low next (q ∷ qs) zero p work e h =
      let same : q ≡ p = cc in
      let m : q.ticket.0 ≡ p.ticket.0 = ap (λ (x : Pending T). x.ticket.0) same in
      let From : ℕ → Type 0 = λ t. Rises (t + 1) next qs in
      (omega (arith, h.0, m), subst From m h.1)
  rises_set low next (q ∷ qs) (suc k) p work e h = (h.0, rises_set (q.ticket.0 + 1) next qs k p work e h.1)

  left-rises : (low : ℕ) (s : Tokens T) (k : ℕ) (found : Option (Pending T)) (end : End) (change : T → T) → IsRisingFrom low s
      → IsRisingFrom low (left_at s k found end change)
  left-rises low s k None end change h = h
  left-rises low s k (Some p) end change h = rises_remove low s.next s.pending k h

  ended-rises : (low : ℕ) (s : Tokens T) (k : Option ℕ) (end : End) (change : T → T) → IsRisingFrom low s → IsRisingFrom low (ended_at s k end change)
  ended-rises low s None end change h = h
  ended-rises low s (Some k) end change h = left-rises low s k (slice_get s.pending k) end change h

  set-rises : (low : ℕ) (s : Tokens T) (k : ℕ) (found : Option (Pending T)) (work : T) → slice_get s.pending k ≡ found → IsRisingFrom low s
      → IsRisingFrom low (set_at s k found work)
  set-rises low s k None work e h = h
  set-rises low s k (Some p) work e h = rises_set low s.next s.pending k p work e h

  put-rises : (low : ℕ) (s : Tokens T) (k : Option ℕ) (work : T) → IsRisingFrom low s → IsRisingFrom low (put_at s k work)
  put-rises low s None work h = h
  put-rises low s (Some k) work h = set-rises low s k (slice_get s.pending k) work refl h

  act_rises : (low : ℕ) (s : Tokens T) (a : Act T) → IsRisingFrom low s → IsRisingFrom low (after s a)
  act_rises low s (Accepted child owner work) h = rises_more low s.next s.pending _ refl h
  act_rises low s (Ended ticket end work) h = ended-rises low s (position (is_at ticket) s.pending) end (λ _. work) h
  act_rises low s (Stopped child) h = rises_filter (picks_not (Child child)) low s.next s.pending h
  act_rises low s (Cancelled child ticket) h = ended-rises low s (position (is_childs child ticket) s.pending) Aborted (λ w. w) h
  act_rises low s (TokenCancelled child token) h = ended-rises low s (position (is_token child token) s.pending) Aborted (λ w. w) h
  act_rises low s (Withdrawn owner) h = rises_filter (picks_not (OwnedBy owner)) low s.next s.pending h
  act_rises low s (Reworked ticket work) h = put-rises low s (position (is_at ticket) s.pending) work h
  act_rises low s (Reserved k) h = h
  act_rises low s Taken h = h
  act_rises low s TakenUp h = h

  -- after any list of acts the pending tokens stand by rising ticket
  pub runs_rise_from : (low : ℕ) (s : Tokens T) (acts : List (Act T)) → IsRisingFrom low s → IsRisingFrom low (runs s acts)
  runs_rise_from low s [] h = h
  runs_rise_from low s (a ∷ acts) h = runs_rise_from low (after s a) acts (act_rises low s a h)

  pub runs_rise : (s : Tokens T) (acts : List (Act T)) → IsRising s → IsRising (runs s acts)
  runs_rise s acts h = runs_rise_from 1 s acts h

  -- these ends are aborted ones
  abbrev pub AllAborted : List (Done T) → Type 0
  AllAborted [] = Unit {0}
  AllAborted (d ∷ ds) = (d.end ≡ Aborted) × AllAborted ds

  -- what a stop of a child does: its pending tokens, by rising ticket from the first one on, end as aborted, each by its
  -- owner's exit, and nothing else changes
  pub record Stops (first : ℕ) (s s' : Tokens T) (child : ChildId) : Type 0 where
    pub stays : s'.pending ≡ filter (picks_not (Child child)) s.pending
    pub rising : Rises first s.next (filter (picks (Child child)) s.pending)
    pub users : s'.done ≡ s.done ++ users_of (filter (picks (Child child)) s.pending)
    pub uppers : s'.ups ≡ s.ups ++ uppers_of (filter (picks (Child child)) s.pending)
    pub aborted : AllAborted (users_of (filter (picks (Child child)) s.pending))
    pub numbers : s'.next ≡ s.next

  exit-aborted : (p : Pending T) (o : Owner) (ds : List (Done T)) → AllAborted ds → AllAborted (users_exit p o Aborted ++ ds)
  exit-aborted p (User t) ds h = (refl, h)
  exit-aborted p (Upper proto waits) ds h = h

  all-aborted : (ps : List (Pending T)) → AllAborted (users_of ps)
  all-aborted [] = tt
  all-aborted (p ∷ ps) = exit-aborted p p.owner (users_of ps) (all-aborted ps)

  -- at any moment of any run
  pub stops : (first : ℕ) (acts : List (Act T)) (child : ChildId)
      → Stops first (runs (no_tokens_from first) acts) (after (runs (no_tokens_from first) acts) (Stopped child)) child
  stops first acts child =
      let s : Tokens T = runs (no_tokens_from first) acts in
      let up : IsRisingFrom first s = runs_rise_from first (no_tokens_from first) acts (omega arith) in
      record {
        stays = refl;
        rising = rises_filter (picks (Child child)) first s.next s.pending up;
        users = refl;
        uppers = refl;
        aborted = all-aborted (filter (picks (Child child)) s.pending);
        numbers = refl;
      }
