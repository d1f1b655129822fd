-- No act loses or doubles a message, whatever messages are told apart by.
use Rattle.std.proofs.Common.{◌≡◌, refl, sym, ◌∙◌, ap, arith, ℕ, ◌+◌, Bool, true, false, not, List, [], ◌∷◌, filter, cond, get_or, slice_get, Option, Some, None}
use Rattle.std.specs.List.{sum_by, position, remove}
use Rattle.std.specs.Option.{option_and_then}
use Rattle.std.proofs.lemmas.List.Sums.{sum_by-append, sum_by-remove, sum_by-cons, sum_by-take-drop}
use Rattle.std.proofs.lemmas.List.Quantifiers.{position-Some}
use Rattle.std.proofs.lemmas.Option.{slice_get_within, get_or_from_slice_get, slice_get-get_or, none-some}
use Rattle.efi_base.specs.declared.plain.Ip4.{Ip4}
use Rattle.efi_base.specs.declared.tokens.Ticket.{Ticket}
use Rattle.efi_base.specs.declared.tokens.Proto.{Proto}
use Rattle.ip_hops.specs.declared.wait.Wait.{Wait}
use Rattle.ip_hops.specs.Waits.{waits_for, is_owned, is_full, is_over}
use Rattle.ip_hops.specs.Unresolved.{Unresolved, nothing_waits, taken, handed, handing}
use Rattle.ip_hops.specs.Acts.{Act, Hand, Release, Withdraw, Pass, TakeAsk, TakeEnded, after, runs, weight, weight_of, comes, comes_by, leaves, all_come, all_leave}

module _ {M : Type 0} (weigh : Wait M → ℕ) where
  split-step : (b : Bool) (w : Wait M) (kept gone : List (Wait M))
      → sum_by weigh (cond (not b) (w ∷ kept) kept) + sum_by weigh (cond b (w ∷ gone) gone) ≡ weigh w + (sum_by weigh kept + sum_by weigh gone)
  split-step true w kept gone = omega (arith, sum_by-cons weigh w gone)
  split-step false w kept gone = omega (arith, sum_by-cons weigh w kept)

  -- what a test keeps and what it takes out
  pub split : (test : Wait M → Bool) (ws : List (Wait M)) → sum_by weigh (filter (λ w. not (test w)) ws) + sum_by weigh (filter test ws) ≡ sum_by weigh ws
  split test [] = refl
  split test (w ∷ ws) =
      split-step (test w) w (filter (λ w. not (test w)) ws) (filter test ws) ∙ ap (λ n. weigh w + n) (split test ws) ∙ sym (sum_by-cons weigh w ws)

  out-at : (ws : List (Wait M)) (k : ℕ) (o : Option (Wait M)) (test : Wait M → Bool) → position test ws ≡ Some k → slice_get ws k ≡ o
      → sum_by weigh (remove ws k) + weight_of weigh o ≡ sum_by weigh ws
  out-at ws k None test e f = absurd (nothing ws k e f)
    where
      nothing : (ws : List (Wait M)) (k : ℕ) → position test ws ≡ Some k → slice_get ws k ≡ None → ⊥
      nothing [] k e f = absurd (cc)
      nothing (w ∷ ws) k e f =
          let within = position-Some test (w ∷ ws) k w e in
          none-some (get_or (w ∷ ws) k w) (sym f ∙ slice_get-get_or (w ∷ ws) k w within.0)
  out-at ws k (Some w) test e f =
      let removed = sum_by-remove weigh ws k w (slice_get_within ws k w f) in
      let at : weigh (get_or ws k w) ≡ weigh w = ap weigh (get_or_from_slice_get ws k w w f) in
      omega (arith, removed, at)

  released-by : (s : Unresolved M) (hop : Ip4) (o : Option ℕ) → position (waits_for hop) s.waits ≡ o
      → weight weigh (taken s hop o) + weight_of weigh (option_and_then (λ (k : ℕ). slice_get s.waits k) o) ≡ weight weigh s
  released-by s hop None e = omega arith
  released-by s hop (Some k) e = omega (arith, out-at s.waits k (slice_get s.waits k) (waits_for hop) e refl)

  waited : (s : Unresolved M) (hop source : Ip4) (owner : Option (Proto × Ticket)) (m : M) (b : Bool) → is_full hop s.waits ≡ b
      → weight weigh (handed s hop source owner None m) + 0 ≡ weight weigh s + comes_by weigh (record { hop = hop; owner = owner; message = m }) (handing s hop None m)
  waited s hop source owner m true e = rw e (omega arith)
  waited s hop source owner m false e = rw e (omega (arith, sum_by-append weigh s.waits (record { hop = hop; owner = owner; message = m } ∷ [])))

  weight_act : (s : Unresolved M) (a : Act M) → weight weigh (after s a) + leaves weigh s a ≡ weight weigh s + comes weigh s a
  weight_act s (Hand hop source owner (Some mac) m) = omega arith
  weight_act s (Hand hop source owner None m) = waited s hop source owner m (is_full hop s.waits) refl
  weight_act s (Release hop) = released-by s hop (position (waits_for hop) s.waits) refl ∙ omega arith
  weight_act s (Withdraw token) = omega (arith, split (is_owned token) s.waits)
  weight_act s Pass = omega (arith, split (is_over (s.moment + 1) s.rounds) s.waits, sum_by-append weigh s.ended (filter (is_over (s.moment + 1) s.rounds) s.waits))
  weight_act s TakeAsk = omega arith
  weight_act s TakeEnded = omega (arith, sum_by-take-drop weigh s.ended 1)

  runs-weight : (s : Unresolved M) (acts : List (Act M)) → weight weigh (runs s acts) + all_leave weigh s acts ≡ weight weigh s + all_come weigh s acts
  runs-weight s [] = refl
  runs-weight s (a ∷ acts) = omega (arith, weight_act s a, runs-weight (after s a) acts)

pub weight_runs : {M : Type 0} (weigh : Wait M → ℕ) (acts : List (Act M))
    → weight weigh (runs nothing_waits acts) + all_leave weigh nothing_waits acts ≡ all_come weigh nothing_waits acts
weight_runs weigh acts = runs-weight weigh nothing_waits acts ∙ omega arith
