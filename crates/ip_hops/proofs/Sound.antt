-- What holds of rounds and messages that wait, throughout.
use Rattle.std.proofs.Common.{◌≡◌, refl, sym, ◌∙◌, ap, arith, ℕ, zero, suc, ◌+◌, ◌<◌, ◌≤◌, Bool, true, false, ◌==◌, ◌&&◌, ◌||◌, not, nat_le, List, [], ◌∷◌, ◌++◌, filter, cond, length, Option, Some, None}
use Rattle.std.specs.List.{list_any, list_all, position, remove, sum_by, count_by}
use Rattle.std.proofs.lemmas.Bool.Decides.{nat_tests}
use Rattle.std.proofs.lemmas.List.Folds.{list_all-append}
use Rattle.std.proofs.lemmas.List.Sums.{sum_by-append, sum_by-remove, sum_by-cons}
use Rattle.std.proofs.lemmas.List.Quantifiers.{position-Some}
use Rattle.efi_base.specs.declared.plain.Ip4.{Ip4}
use Rattle.efi_base.specs.declared.tokens.Ticket.{Ticket}
use Rattle.efi_base.specs.declared.tokens.Proto.{Proto}
use Rattle.ip_hops.specs.declared.round.Round.{Round}
use Rattle.ip_hops.specs.declared.wait.Wait.{Wait}
use Rattle.ip_hops.specs.Rounds.{is_round_of, is_round_of_other, ends, goes_on, is_ending}
use Rattle.ip_hops.specs.Waits.{waits_for, is_owned, is_not_owned, is_full, is_over, stays}
use Rattle.ip_hops.specs.Unresolved.{Unresolved, nothing_waits, begun, round_now, handed, waiting, taken}
use Rattle.ip_hops.specs.Acts.{Act, Hand, Release, Withdraw, Pass, TakeAsk, TakeEnded, after, runs, IsSound, has_one_each, is_young, has_round}
use Rattle.ip_hops.proofs.Conserves.{split}

-- facts of tests over lists
and-left : (a b : Bool) → (a && b) ≡ true → a ≡ true
and-left true b h = refl
and-left false b h = absurd (cc)

and-right : (a b : Bool) → (a && b) ≡ true → b ≡ true
and-right true b h = h
and-right false b h = absurd (cc)

both : (a b : Bool) → a ≡ true → b ≡ true → (a && b) ≡ true
both true b h i = i
both false b h i = absurd (cc)

not-true : (a : Bool) → not a ≡ true → a ≡ false
not-true true h = absurd (cc)
not-true false h = refl

or-first : (a b : Bool) → (a || b) ≡ false → a ≡ false
or-first true b h = h
or-first false b h = refl

or-last : (a b : Bool) → (a || b) ≡ false → b ≡ false
or-last true b h = absurd (cc)
or-last false b h = h

module _ {X : Type 0} where
  all-if : (t : X → Bool) (b : Bool) (x : X) (xs : List X) → t x ≡ true → list_all t xs ≡ true → list_all t (cond b (x ∷ xs) xs) ≡ true
  all-if t true x xs h i = both (t x) (list_all t xs) h i
  all-if t false x xs h i = i

  all-kept : (t p : X → Bool) (xs : List X) → list_all t xs ≡ true → list_all t (filter p xs) ≡ true
  all-kept t p [] h = refl
  all-kept t p (x ∷ xs) h =
      all-if t (p x) x (filter p xs) (and-left (t x) (list_all t xs) h) (all-kept t p xs (and-right (t x) (list_all t xs) h))

  all-take : (t : X → Bool) (xs : List X) (k : ℕ) → list_all t xs ≡ true → list_all t (remove xs k) ≡ true
  all-take t [] zero h = refl
  all-take t [] (suc k) h = refl
  all-take t (x ∷ xs) zero h = and-right (t x) (list_all t xs) h
  all-take t (x ∷ xs) (suc k) h = both (t x) (list_all t (remove xs k)) (and-left (t x) (list_all t xs) h) (all-take t xs k (and-right (t x) (list_all t xs) h))

  -- what a test finds nowhere it doesn't find among fewer
  none-if : (t : X → Bool) (b : Bool) (x : X) (xs : List X) → t x ≡ false → list_any t xs ≡ false → list_any t (cond b (x ∷ xs) xs) ≡ false
  none-if t true x xs h i = ap (λ c. c || list_any t xs) h ∙ i
  none-if t false x xs h i = i

  none-kept : (t p : X → Bool) (xs : List X) → list_any t xs ≡ false → list_any t (filter p xs) ≡ false
  none-kept t p [] h = refl
  none-kept t p (x ∷ xs) h =
      none-if t (p x) x (filter p xs) (or-first (t x) (list_any t xs) h) (none-kept t p xs (or-last (t x) (list_any t xs) h))

  -- what a test finds it finds among those that are kept, where what is taken out doesn't pass it
  any-step : (t : X → Bool) (b : Bool) (x : X) (xs ys : List X) → (b ≡ false → t x ≡ false) → list_any t ys ≡ list_any t xs
      → list_any t (cond b (x ∷ ys) ys) ≡ (t x || list_any t xs)
  any-step t true x xs ys h i = ap (λ c. t x || c) i
  any-step t false x xs ys h i = i ∙ sym (ap (λ c. c || list_any t xs) (h refl))

  any-more : (t : X → Bool) (xs ys : List X) → list_any t xs ≡ true → list_any t (xs ++ ys) ≡ true
  any-more t [] ys h = absurd (cc)
  any-more t (x ∷ xs) ys h = by (t x) refl (any-more t xs ys)
    where
      by : (b : Bool) → t x ≡ b → (list_any t xs ≡ true → list_any t (xs ++ ys) ≡ true) → (t x || list_any t (xs ++ ys)) ≡ true
      by true e f = ap (λ c. c || list_any t (xs ++ ys)) e
      by false e f = ap (λ c. c || list_any t (xs ++ ys)) e ∙ f (sym (ap (λ c. c || list_any t xs) e) ∙ h)

  any-last : (t : X → Bool) (xs : List X) (x : X) → t x ≡ true → list_any t (xs ++ x ∷ []) ≡ true
  any-last t [] x h = ap (λ c. c || false) h
  any-last t (y ∷ xs) x h = ap (λ c. t y || c) (any-last t xs x h) ∙ or-true (t y)
    where
      or-true : (b : Bool) → (b || true) ≡ true
      or-true true = refl
      or-true false = refl

  none-more : (t : X → Bool) (xs : List X) (x : X) → list_any t xs ≡ false → t x ≡ false → list_any t (xs ++ x ∷ []) ≡ false
  none-more t [] x h i = ap (λ c. c || false) i
  none-more t (y ∷ xs) x h i =
      ap (λ c. c || list_any t (xs ++ x ∷ [])) (or-first (t y) (list_any t xs) h) ∙ none-more t xs x (or-last (t y) (list_any t xs) h) i

  all-last : (t : X → Bool) (xs : List X) (x : X) → list_all t xs ≡ true → t x ≡ true → list_all t (xs ++ x ∷ []) ≡ true
  all-last t xs x h i = list_all-append t xs (x ∷ []) ∙ both (list_all t xs) (list_all t (x ∷ [])) h (both (t x) true i refl)

  all-same : (t u : X → Bool) (xs : List X) → ((x : X) → t x ≡ true → u x ≡ true) → list_all t xs ≡ true → list_all u xs ≡ true
  all-same t u [] f h = refl
  all-same t u (x ∷ xs) f h =
      both (u x) (list_all u xs) (f x (and-left (t x) (list_all t xs) h)) (all-same t u xs f (and-right (t x) (list_all t xs) h))

-- two rounds are of one next hop, or not, whichever is asked first
other-hop : (r x : Round) → is_round_of r.hop x ≡ false → is_round_of x.hop r ≡ false
other-hop r x h = grind (arith, nat_tests)

-- one round each
one-more : (rs : List Round) (r : Round) → list_any (is_round_of r.hop) rs ≡ false → has_one_each rs ≡ true → has_one_each (rs ++ r ∷ []) ≡ true
one-more [] r h i = refl
one-more (x ∷ rs) r h i =
    let no = not-true (list_any (is_round_of x.hop) rs) (and-left (not (list_any (is_round_of x.hop) rs)) (has_one_each rs) i) in
    let far = other-hop r x (or-first (is_round_of r.hop x) (list_any (is_round_of r.hop) rs) h) in
    both
    (not (list_any (is_round_of x.hop) (rs ++ r ∷ [])))
    (has_one_each (rs ++ r ∷ []))
    (ap not (none-more (is_round_of x.hop) rs r no far))
    (one-more rs r (or-last (is_round_of r.hop x) (list_any (is_round_of r.hop) rs) h) (and-right (not (list_any (is_round_of x.hop) rs)) (has_one_each rs) i))

one-if : (b : Bool) (x : Round) (rs : List Round) → list_any (is_round_of x.hop) rs ≡ false → has_one_each rs ≡ true → has_one_each (cond b (x ∷ rs) rs) ≡ true
one-if true x rs h i = both (not (list_any (is_round_of x.hop) rs)) (has_one_each rs) (ap not h) i
one-if false x rs h i = i

one-kept : (p : Round → Bool) (rs : List Round) → has_one_each rs ≡ true → has_one_each (filter p rs) ≡ true
one-kept p [] h = refl
one-kept p (x ∷ rs) h =
    let no = not-true (list_any (is_round_of x.hop) rs) (and-left (not (list_any (is_round_of x.hop) rs)) (has_one_each rs) h) in
    one-if (p x) x (filter p rs) (none-kept (is_round_of x.hop) p rs no) (one-kept p rs (and-right (not (list_any (is_round_of x.hop) rs)) (has_one_each rs) h))

one-begun : (rs : List Round) (r : Round) (b : Bool) → list_any (is_round_of r.hop) rs ≡ b → has_one_each rs ≡ true → has_one_each (begun rs r) ≡ true
one-begun rs r true e h = rw e h
one-begun rs r false e h = rw e (one-more rs r e h)

-- young rounds
young-begun : (moment : ℕ) (rs : List Round) (r : Round) (b : Bool) → list_any (is_round_of r.hop) rs ≡ b → r.asked.0 ≡ moment
    → list_all (is_young moment) rs ≡ true → list_all (is_young moment) (begun rs r) ≡ true
young-begun moment rs r true e at h = rw e h
young-begun moment rs r false e at h = rw e (all-last (is_young moment) rs r h (grind (arith, nat_tests)))

young-one : (m : ℕ) (r : Round) → is_young m r ≡ true → goes_on (m + 1) r ≡ true → is_young (m + 1) r ≡ true
young-one m r h i = grind (arith, nat_tests)

young-if : (m : ℕ) (b : Bool) (r : Round) (rs : List Round) → goes_on (m + 1) r ≡ b → is_young m r ≡ true → list_all (is_young (m + 1)) rs ≡ true
    → list_all (is_young (m + 1)) (cond b (r ∷ rs) rs) ≡ true
young-if m true r rs e h i = both (is_young (m + 1) r) (list_all (is_young (m + 1)) rs) (young-one m r h e) i
young-if m false r rs e h i = i

young-tick : (m : ℕ) (rs : List Round) → list_all (is_young m) rs ≡ true → list_all (is_young (m + 1)) (filter (goes_on (m + 1)) rs) ≡ true
young-tick m [] h = refl
young-tick m (r ∷ rs) h =
    young-if m (goes_on (m + 1) r) r (filter (goes_on (m + 1)) rs) refl (and-left (is_young m r) (list_all (is_young m) rs) h)
    (young-tick m rs (and-right (is_young m r) (list_all (is_young m) rs) h))

-- rounds of the messages that wait
any-begun : (rs : List Round) (r : Round) (hop : Ip4) (b : Bool) → list_any (is_round_of r.hop) rs ≡ b → list_any (is_round_of hop) rs ≡ true
    → list_any (is_round_of hop) (begun rs r) ≡ true
any-begun rs r hop true e h = rw e h
any-begun rs r hop false e h = rw e (any-more (is_round_of hop) rs (r ∷ []) h)

own-begun : (rs : List Round) (r : Round) (b : Bool) → list_any (is_round_of r.hop) rs ≡ b → list_any (is_round_of r.hop) (begun rs r) ≡ true
own-begun rs r true e = rw e e
own-begun rs r false e = rw e (any-last (is_round_of r.hop) rs r (grind (arith, nat_tests)))

not-other : (hop other : Ip4) (r : Round) → (other.0 == hop.0) ≡ false → is_round_of_other hop r ≡ false → is_round_of other r ≡ false
not-other hop other r h i = grind (arith, nat_tests)

any-others : (hop other : Ip4) (rs : List Round) → (other.0 == hop.0) ≡ false → list_any (is_round_of other) (filter (is_round_of_other hop) rs) ≡ list_any (is_round_of other) rs
any-others hop other [] h = refl
any-others hop other (r ∷ rs) h =
    any-step (is_round_of other) (is_round_of_other hop r) r rs (filter (is_round_of_other hop) rs) (λ e. not-other hop other r h e) (any-others hop other rs h)

and-no : (a b : Bool) → (a && b) ≡ false → not b ≡ false → a ≡ false
and-no true b h i = absurd (contrary b h i)
  where
    contrary : (b : Bool) → b ≡ false → not b ≡ false → ⊥
    contrary true h i = absurd (cc)
    contrary false h i = absurd (cc)
and-no false b h i = refl

any-going-on : (m : ℕ) (hop : Ip4) (rs : List Round) → is_ending m rs hop ≡ false → list_any (is_round_of hop) (filter (goes_on m) rs) ≡ list_any (is_round_of hop) rs
unfolding is_ending
any-going-on m hop [] h = refl
any-going-on m hop (r ∷ rs) h =
    any-step (is_round_of hop) (goes_on m r) r rs (filter (goes_on m) rs)
    (λ e. and-no (is_round_of hop r) (ends m r) (or-first (is_round_of hop r && ends m r) (list_any (λ r. is_round_of hop r && ends m r) rs) h) e)
    (any-going-on m hop rs (or-last (is_round_of hop r && ends m r) (list_any (λ r. is_round_of hop r && ends m r) rs) h))

same-hop : (a b : Ip4) → (a.0 == b.0) ≡ true → a ≡ b
same-hop a b h = grind (arith, nat_tests)

module _ {M : Type 0} where
  none-waits : (hop : Ip4) (ws : List (Wait M)) → position (waits_for hop) ws ≡ None → list_all (λ w. not (waits_for hop w)) ws ≡ true
  none-waits hop [] h = refl
  none-waits hop (w ∷ ws) h = by (waits_for hop w) refl (none-waits hop ws)
    where
      rest : waits_for hop w ≡ false → position (waits_for hop) ws ≡ None
      rest e = grind (arith, nat_tests)

      by : (b : Bool) → waits_for hop w ≡ b → (position (waits_for hop) ws ≡ None → list_all (λ w. not (waits_for hop w)) ws ≡ true)
          → (not (waits_for hop w) && list_all (λ w. not (waits_for hop w)) ws) ≡ true
      by true e f = absurd (grind (arith, nat_tests))
      by false e f = ap (λ b. not b && list_all (λ w. not (waits_for hop w)) ws) e ∙ f (rest e)

  asked-closed : (hop : Ip4) (rs : List Round) (ws : List (Wait M)) → list_all (λ w. not (waits_for hop w)) ws ≡ true → list_all (has_round rs) ws ≡ true
      → list_all (has_round (filter (is_round_of_other hop) rs)) ws ≡ true
  asked-closed hop rs [] h i = refl
  asked-closed hop rs (w ∷ ws) h i =
      let far = not-true (waits_for hop w) (and-left (not (waits_for hop w)) (list_all (λ w. not (waits_for hop w)) ws) h) in
      both
      (has_round (filter (is_round_of_other hop) rs) w)
      (list_all (has_round (filter (is_round_of_other hop) rs)) ws)
      (any-others hop w.hop rs far ∙ and-left (has_round rs w) (list_all (has_round rs) ws) i)
      (asked-closed hop rs ws (and-right (not (waits_for hop w)) (list_all (λ w. not (waits_for hop w)) ws) h) (and-right (has_round rs w) (list_all (has_round rs) ws) i))

  asked-if : (m : ℕ) (rs : List Round) (b : Bool) (w : Wait M) (ws : List (Wait M)) → is_over m rs w ≡ b → has_round rs w ≡ true
      → list_all (has_round (filter (goes_on m) rs)) ws ≡ true → list_all (has_round (filter (goes_on m) rs)) (cond (not b) (w ∷ ws) ws) ≡ true
  asked-if m rs true w ws e h i = i
  asked-if m rs false w ws e h i =
      both (has_round (filter (goes_on m) rs) w) (list_all (has_round (filter (goes_on m) rs)) ws) (any-going-on m w.hop rs e ∙ h) i

  asked-tick : (m : ℕ) (rs : List Round) (ws : List (Wait M)) → list_all (has_round rs) ws ≡ true
      → list_all (has_round (filter (goes_on m) rs)) (filter (stays m rs) ws) ≡ true
  asked-tick m rs [] h = refl
  asked-tick m rs (w ∷ ws) h =
      asked-if m rs (is_over m rs w) w (filter (stays m rs) ws) refl (and-left (has_round rs w) (list_all (has_round rs) ws) h)
      (asked-tick m rs ws (and-right (has_round rs w) (list_all (has_round rs) ws) h))

  asked-waiting : (rs : List Round) (r : Round) (ws : List (Wait M)) (w : Wait M) → w.hop ≡ r.hop → list_all (has_round rs) ws ≡ true
      → list_all (has_round (begun rs r)) (ws ++ w ∷ []) ≡ true
  asked-waiting rs r ws w at h =
      all-last (has_round (begun rs r)) ws w
      (all-same (has_round rs) (has_round (begun rs r)) ws (λ x i. any-begun rs r x.hop (list_any (is_round_of r.hop) rs) refl i) h)
      (ap (λ hop. list_any (is_round_of hop) (begun rs r)) at ∙ own-begun rs r (list_any (is_round_of r.hop) rs) refl)

  -- 16 wait for a next hop
  module _ (hop : Ip4) where
    abbrev one : Wait M → ℕ
    one w = cond (waits_for hop w) 1 0

    few-kept : (test : Wait M → Bool) (ws : List (Wait M)) → sum_by one (filter (λ w. not (test w)) ws) ≤ sum_by one ws
    few-kept test ws = omega (arith, split one test ws)

    few-taken : (ws : List (Wait M)) (k : ℕ) (w : Wait M) → k < length ws → sum_by one (remove ws k) ≤ sum_by one ws
    few-taken ws k w h = omega (arith, sum_by-remove one ws k w h)

    few-more : (ws : List (Wait M)) (w : Wait M) (b : Bool) → (w.hop.0 == hop.0) ≡ b → sum_by one ws ≤ 16 → (b ≡ true → sum_by one ws < 16) → sum_by one (ws ++ w ∷ []) ≤ 16
    few-more ws w true e h i =
        let bit : one w ≡ 1 = ap (λ b. cond b 1 0) e in
        omega (arith, i refl, bit, sum_by-append one ws (w ∷ []), sum_by-cons one w [])
    few-more ws w false e h i =
        let bit : one w ≡ 0 = ap (λ b. cond b 1 0) e in
        omega (arith, h, bit, sum_by-append one ws (w ∷ []), sum_by-cons one w [])

  not-full : (ws : List (Wait M)) (a b : Ip4) → is_full a ws ≡ false → (a.0 == b.0) ≡ true → sum_by (one b) ws < 16
  not-full ws a b h e =
      let same : a ≡ b = same-hop a b e in
      let less : count_by (waits_for b) ws < 16 = few (count_by (waits_for b) ws) (ap (λ x. is_full x ws) (sym same) ∙ h) in
      less
    where
      few : (n : ℕ) → nat_le 16 n ≡ false → n < 16
      few n h = grind (arith, nat_tests)

  -- each act
  sound-waiting : (s : Unresolved M) (hop source : Ip4) (owner : Option (Proto × Ticket)) (m : M) → is_full hop s.waits ≡ false → IsSound s
      → IsSound (waiting s hop source owner m)
  sound-waiting s hop source owner m room is =
      let r : Round = round_now s hop source in
      let w : Wait M = record { hop = hop; owner = owner; message = m } in
      record {
        one = one-begun s.rounds r (list_any (is_round_of hop) s.rounds) refl is.one;
        young = young-begun s.moment s.rounds r (list_any (is_round_of hop) s.rounds) refl refl is.young;
        asked = asked-waiting s.rounds r s.waits w refl is.asked;
        few = λ other. few-more other s.waits w (hop.0 == other.0) refl (is.few other) (λ e. not-full s.waits hop other room e);
      }

  sound-handed : (s : Unresolved M) (hop source : Ip4) (owner : Option (Proto × Ticket)) (m : M) (b : Bool) → is_full hop s.waits ≡ b → IsSound s
      → IsSound (handed s hop source owner None m)
  sound-handed s hop source owner m true e is = rw e is
  sound-handed s hop source owner m false e is = rw e (sound-waiting s hop source owner m e is)

  sound-taken : (s : Unresolved M) (hop : Ip4) (o : Option ℕ) → position (waits_for hop) s.waits ≡ o → IsSound s → IsSound (taken s hop o)
  sound-taken s hop None e is = record {
    one = one-kept (is_round_of_other hop) s.rounds is.one;
    young = all-kept (is_young s.moment) (is_round_of_other hop) s.rounds is.young;
    asked = asked-closed hop s.rounds s.waits (none-waits hop s.waits e) is.asked;
    few = is.few;
  }
  sound-taken s hop (Some k) e is = record {
    one = is.one;
    young = is.young;
    asked = all-take (has_round s.rounds) s.waits k is.asked;
    few = λ other. fewer s.waits k e other (is.few other);
  }
    where
      fewer : (ws : List (Wait M)) (k : ℕ) → position (waits_for hop) ws ≡ Some k → (other : Ip4) → sum_by (one other) ws ≤ 16 → sum_by (one other) (remove ws k) ≤ 16
      fewer [] k e other h = absurd (cc)
      fewer (w ∷ ws) k e other h =
          let within = position-Some (waits_for hop) (w ∷ ws) k w e in
          omega (arith, h, few-taken other (w ∷ ws) k w within.0)

  sound-act : (s : Unresolved M) (a : Act M) → IsSound s → IsSound (after s a)
  sound-act s (Hand hop source owner (Some mac) m) is = is
  sound-act s (Hand hop source owner None m) is = sound-handed s hop source owner m (is_full hop s.waits) refl is
  sound-act s (Release hop) is = sound-taken s hop (position (waits_for hop) s.waits) refl is
  sound-act s (Withdraw token) is = record {
    one = is.one;
    young = is.young;
    asked = all-kept (has_round s.rounds) (is_not_owned token) s.waits is.asked;
    few = λ hop. omega (arith, is.few hop, few-kept hop (is_owned token) s.waits);
  }
  sound-act s Pass is = record {
    one = one-kept (goes_on (s.moment + 1)) s.rounds is.one;
    young = young-tick s.moment s.rounds is.young;
    asked = asked-tick (s.moment + 1) s.rounds s.waits is.asked;
    few = λ hop. omega (arith, is.few hop, few-kept hop (is_over (s.moment + 1) s.rounds) s.waits);
  }
  sound-act s TakeAsk is = record { one = is.one; young = is.young; asked = is.asked; few = is.few }
  sound-act s TakeEnded is = record { one = is.one; young = is.young; asked = is.asked; few = is.few }

  pub sound-runs : (s : Unresolved M) (acts : List (Act M)) → IsSound s → IsSound (runs s acts)
  sound-runs s [] is = is
  sound-runs s (a ∷ acts) is = sound-runs (after s a) acts (sound-act s a is)

  pub sound_runs : (acts : List (Act M)) → IsSound (runs nothing_waits acts)
  sound_runs acts = sound-runs nothing_waits acts (record { one = refl; young = refl; asked = refl; few = λ hop. omega arith })
