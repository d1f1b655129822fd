-- The route that a walk over all routes finds is the best one.
use Rattle.std.proofs.Common.{◌≡◌, ℕ, ◌<◌, ◌≤◌, Bool, true, false, cond, ◌&&◌, IsTrue, List, [], ◌∷◌, ◌++◌, fold, Option, Some, None, refl, sym, ap, subst, ◌∙◌, append_assoc, arith}
use Rattle.std.proofs.lemmas.List.{append-nil}
use Rattle.std.proofs.lemmas.List.Elements.{All-append, All-cons, All-nil}
use Rattle.std.proofs.lemmas.Bool.Decides.{nat_tests}
use Rattle.std.specs.Prelude.{All}
use Rattle.ip_core.specs.declared.routes.Route.{Route}
use Rattle.ip_core.specs.Routing.{matches, mask_length, is_longer, better, best_of, IsBest, FindsBest}

-- a fact of each route of a list, weakened
weaken : (P Q : Route → Type 0) (xs : List Route) → ((s : Route) → P s → Q s) → All P xs → All Q xs
weaken P Q xs f h = λ k d less. f _ (h k d less)

one : (P : Route → Type 0) (x : Route) → P x → All P (x ∷ [])
one P x p = All-cons P x [] p (All-nil P)

-- a first match
first-match : (a : ℕ) (seen : List Route) (x : Route) → matches x a ≡ true → All (λ s. matches s a ≡ false) seen → IsBest a (seen ++ x ∷ []) x
first-match a seen x m h = record {
  before = seen;
  after = [];
  there = refl;
  matches_it = m;
  longer = weaken (λ s. matches s a ≡ false) (λ s. IsTrue (matches s a) → mask_length s < mask_length x) seen (λ s f t. absurd (cc)) h;
  as_long = All-nil _;
}

-- a route behind the best one that doesn't better it
kept : (a : ℕ) (seen : List Route) (x best : Route) → (IsTrue (matches x a) → mask_length x ≤ mask_length best) → IsBest a seen best → IsBest a (seen ++ x ∷ []) best
kept a seen x best h b =
    let P : Route → Type 0 = λ s. IsTrue (matches s a) → mask_length s ≤ mask_length best in
    record {
      before = b.before;
      after = b.after ++ x ∷ [];
      there = ap (λ l. l ++ x ∷ []) b.there ∙ append_assoc b.before (best ∷ b.after) (x ∷ []);
      matches_it = b.matches_it;
      longer = b.longer;
      as_long = All-append P b.after (x ∷ []) b.as_long (one P x h);
    }

-- a longer match behind the best one
bettered : (a : ℕ) (seen : List Route) (x best : Route) → matches x a ≡ true → mask_length best < mask_length x → IsBest a seen best → IsBest a (seen ++ x ∷ []) x
bettered a seen x best m h b =
    let P : Route → Type 0 = λ s. IsTrue (matches s a) → mask_length s < mask_length x in
    let before : All P b.before = weaken (λ s. IsTrue (matches s a) → mask_length s < mask_length best) P b.before (λ s f t. omega (arith, f t, h)) b.longer in
    let after : All P b.after = weaken (λ s. IsTrue (matches s a) → mask_length s ≤ mask_length best) P b.after (λ s f t. omega (arith, f t, h)) b.as_long in
    let all : All P (b.before ++ best ∷ b.after) = All-append P b.before (best ∷ b.after) before (All-cons P best b.after (λ t. h) after) in
    record {
      before = seen;
      after = [];
      there = refl;
      matches_it = m;
      longer = subst (All P) (sym b.there) all;
      as_long = All-nil _;
    }

step-cases : (a : ℕ) (seen : List Route) (best : Option Route) (x : Route) (m longer : Bool) → matches x a ≡ m → is_longer x best ≡ longer
    → FindsBest a seen best → FindsBest a (seen ++ x ∷ []) (cond (m && longer) (Some x) best)
step-cases a seen None x false longer m l h =
    let P : Route → Type 0 = λ s. matches s a ≡ false in All-append P seen (x ∷ []) h (one P x m)
step-cases a seen None x true true m l h = first-match a seen x m h
step-cases a seen None x true false m l h = absurd (cc)
step-cases a seen (Some best) x false longer m l h = kept a seen x best (λ t. absurd (cc)) h
step-cases a seen (Some best) x true true m l h = bettered a seen x best m (grind (arith, nat_tests)) h
step-cases a seen (Some best) x true false m l h = kept a seen x best (λ t. grind (arith, nat_tests)) h

all-steps : (a : ℕ) (seen xs : List Route) (best : Option Route) → FindsBest a seen best → FindsBest a (seen ++ xs) (fold (better a) best xs)
all-steps a seen [] best h = subst (λ l. FindsBest a l best) (sym (append-nil seen)) h
all-steps a seen (x ∷ xs) best h =
    let step : FindsBest a (seen ++ x ∷ []) (better a best x) = step-cases a seen best x _ _ refl refl h in
    let rest : FindsBest a ((seen ++ x ∷ []) ++ xs) (fold (better a) (better a best x) xs) = all-steps a (seen ++ x ∷ []) xs (better a best x) step in
    subst (λ l. FindsBest a l (fold (better a) (better a best x) xs)) (append_assoc seen (x ∷ []) xs) rest

pub finds-best : (a : ℕ) (routes : List Route) → FindsBest a routes (best_of a routes)
finds-best a routes = all-steps a [] routes None (All-nil _)
