-- A moment at which nothing is due changes nothing but the moment, and the next moment stays until it has come.
use Rattle.std.proofs.Common.{◌≡◌, refl, ◌∙◌, ap, arith, ℕ, ◌<◌, Bool, true, false, ◌||◌, ◌&&◌, not, List, [], ◌∷◌, ◌++◌, map, filter, cond, Option, Some, None, IfSome}
use Rattle.std.specs.List.{list_any}
use Rattle.std.proofs.lemmas.List.{append-nil}
use Rattle.std.proofs.lemmas.Grind.{common_steps}
use Rattle.efi_timer.specs.Ticking.{IsTimed}
use Rattle.efi_base.specs.declared.plain.Ip4.{Ip4}
use Rattle.ip_hops.specs.declared.round.Round.{Round}
use Rattle.ip_hops.specs.declared.wait.Wait.{Wait}
use Rattle.ip_hops.specs.Rounds.{is_round_of, asks_again, ends, goes_on, is_ending, ask_of, due_after, least, next_among}
use Rattle.ip_hops.specs.Waits.{is_over, stays}
use Rattle.ip_hops.specs.Unresolved.{Unresolved, acted, at, moment_of, next_of}

abbrev is_due : ℕ → Round → Bool
is_due m r = asks_again m r || ends m r

quiet_one : (r : Round) (moment m : ℕ) → moment < m → IfSome (due_after moment r) (λ t. m < t) → is_due m r ≡ false
quiet_one r moment m h before = grind (arith, common_steps)

both : (a b : Option ℕ) (m : ℕ) → IfSome (least a b) (λ t. m < t) → IfSome a (λ t. m < t) × IfSome b (λ t. m < t)
both None b m h = (tt, h)
both (Some a) None m h = (h, tt)
both (Some a) (Some b) m h = (omega (arith, h), omega (arith, h))

first_false : (a b : Bool) → (a || b) ≡ false → a ≡ false
first_false true b h = h
first_false false b h = refl

last_false : (a b : Bool) → (a || b) ≡ false → b ≡ false
last_false true b h = absurd cc
last_false false b h = h

-- before the least next moment nothing is due
quiet_all : (rs : List Round) (moment m : ℕ) → moment < m → IfSome (next_among moment rs) (λ t. m < t) → list_any (is_due m) rs ≡ false
quiet_all [] moment m h before = refl
quiet_all (r ∷ rs) moment m h before =
    let halves = both (due_after moment r) (next_among moment rs) m before in
    let one = quiet_one r moment m h halves.0 in
    let rest = quiet_all rs moment m h halves.1 in
    ap (λ b. b || list_any (is_due m) rs) one ∙ rest

module _ (m : ℕ) where
  no_asks : (rs : List Round) → list_any (is_due m) rs ≡ false → filter (asks_again m) rs ≡ []
  no_asks [] h = refl
  no_asks (r ∷ rs) h =
      let one = first_false (asks_again m r) (ends m r) (first_false (is_due m r) (list_any (is_due m) rs) h) in
      ap (λ b. cond b (r ∷ filter (asks_again m) rs) (filter (asks_again m) rs)) one ∙ no_asks rs (last_false (is_due m r) (list_any (is_due m) rs) h)

  all_go_on : (rs : List Round) → list_any (is_due m) rs ≡ false → filter (goes_on m) rs ≡ rs
  all_go_on [] h = refl
  all_go_on (r ∷ rs) h =
      let one = last_false (asks_again m r) (ends m r) (first_false (is_due m r) (list_any (is_due m) rs) h) in
      ap (λ b. cond (not b) (r ∷ filter (goes_on m) rs) (filter (goes_on m) rs)) one
      ∙ ap (λ l. r ∷ l) (all_go_on rs (last_false (is_due m r) (list_any (is_due m) rs) h))

  and_false : (a b : Bool) → b ≡ false → (a && b) ≡ false
  and_false true b h = h
  and_false false b h = refl

  no_ending : (rs : List Round) (hop : Ip4) → list_any (is_due m) rs ≡ false → is_ending m rs hop ≡ false
  unfolding is_ending
  no_ending [] hop h = refl
  no_ending (r ∷ rs) hop h =
      let one = last_false (asks_again m r) (ends m r) (first_false (is_due m r) (list_any (is_due m) rs) h) in
      ap (λ b. b || list_any (λ r. is_round_of hop r && ends m r) rs) (and_false (is_round_of hop r) (ends m r) one)
      ∙ no_ending rs hop (last_false (is_due m r) (list_any (is_due m) rs) h)

  module _ {M : Type 0} where
    none_over : (rs : List Round) (ws : List (Wait M)) → list_any (is_due m) rs ≡ false → filter (is_over m rs) ws ≡ []
    none_over rs [] h = refl
    none_over rs (w ∷ ws) h =
        ap (λ b. cond b (w ∷ filter (is_over m rs) ws) (filter (is_over m rs) ws)) (no_ending rs w.hop h) ∙ none_over rs ws h

    all_stay : (rs : List Round) (ws : List (Wait M)) → list_any (is_due m) rs ≡ false → filter (stays m rs) ws ≡ ws
    all_stay rs [] h = refl
    all_stay rs (w ∷ ws) h =
        ap (λ b. cond (not b) (w ∷ filter (stays m rs) ws) (filter (stays m rs) ws)) (no_ending rs w.hop h) ∙ ap (λ l. w ∷ l) (all_stay rs ws h)

later_one : (r : Round) (moment : ℕ) → IfSome (due_after moment r) (λ t. moment < t)
later_one r moment = grind (arith, common_steps)

least_later : (a b : Option ℕ) (m : ℕ) → IfSome a (λ t. m < t) → IfSome b (λ t. m < t) → IfSome (least a b) (λ t. m < t)
least_later None b m h i = i
least_later (Some a) None m h i = h
least_later (Some a) (Some b) m h i = omega (arith, h, i)

-- the next moment is to come
next_later : (rs : List Round) (moment : ℕ) → IfSome (next_among moment rs) (λ t. moment < t)
next_later [] moment = tt
next_later (r ∷ rs) moment = least_later (due_after moment r) (next_among moment rs) moment (later_one r moment) (next_later rs moment)

kept_one : (r : Round) (moment k : ℕ) → moment < k → IfSome (due_after moment r) (λ t. k < t) → due_after k r ≡ due_after moment r
kept_one r moment k up before = grind (arith, common_steps)

next_kept : (rs : List Round) (moment k : ℕ) → moment < k → IfSome (next_among moment rs) (λ t. k < t) → next_among k rs ≡ next_among moment rs
next_kept [] moment k up before = refl
next_kept (r ∷ rs) moment k up before =
    let halves = both (due_after moment r) (next_among moment rs) k before in
    ap (λ o. least o (next_among k rs)) (kept_one r moment k up halves.0)
    ∙ ap (λ o. least (due_after moment r) o) (next_kept rs moment k up halves.1)

module _ {M : Type 0} where
  acted_quiet : (s : Unresolved M) (m : ℕ) → list_any (is_due m) s.rounds ≡ false → acted m s ≡ at m s
  acted_quiet s m h =
      let rounds = all_go_on m s.rounds h in
      let waits = all_stay m s.rounds s.waits h in
      let asks = ap (λ l. s.asks ++ map ask_of l) (no_asks m s.rounds h) ∙ append-nil s.asks in
      let ended = ap (λ l. s.ended ++ l) (none_over m s.rounds s.waits h) ∙ append-nil s.ended in
      rw (rounds, waits, asks, ended) refl

  pub timed : IsTimed {S = Unresolved M} moment_of acted at next_of (λ s. Unit {0})
  timed = record {
    acted = λ m s. refl;
    placed = λ m s. refl;
    act_at = λ m k s. refl;
    at_at = λ m k s. refl;
    at_same = λ s good. refl;
    good_at = λ m s good. tt;
    quiet = λ s m good up before. acted_quiet s m (quiet_all s.rounds s.moment m up before);
    next_at = λ s k good up before. next_kept s.rounds s.moment k up before;
    later = λ s good. next_later s.rounds s.moment;
  }
