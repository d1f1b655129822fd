-- Closing the pools that are over, one by one.
use Rattle.std.proofs.Common.{◌≡◌, ℕ, zero, suc, ◌+◌, ◌<◌, ◌≤◌, Bool, true, false, cond, List, [], ◌∷◌, length, take, drop, get_or, refl, sym, ap, subst, ◌∙◌, nat_lt, arith}
use Rattle.std.proofs.lemmas.List.{length-append, length-take, length-drop}
use Rattle.std.proofs.lemmas.List.Edits.{get_or-remove_below}
use Rattle.std.proofs.lemmas.Bool.Decides.{nat_tests}
use Rattle.std.specs.List.{filter, remove}
use Rattle.ip_core.specs.Pools.{Pool, lasts, open_at}
use Rattle.ip_core.specs.Bytes.{Bytes}

module _ {X : Type 0} (p : X → Bool) where
  filter-one : (x : X) (xs : List X) (b : Bool) → p x ≡ b → filter p (x ∷ xs) ≡ cond b (x ∷ filter p xs) (filter p xs)
  filter-one x xs b e = ap (λ t. cond t (x ∷ filter p xs) (filter p xs)) e

  filter-all : (xs : List X) → ((k : ℕ) (d : X) → k < length xs → p (get_or xs k d) ≡ true) → filter p xs ≡ xs
  filter-all [] h = refl
  filter-all (x ∷ xs) h =
      filter-one x xs true (h 0 x (omega arith))
      ∙ ap (λ l. x ∷ l) (filter-all xs (λ k d less. h (suc k) d (omega (arith, less))))

  filter-remove : (xs : List X) (i : ℕ) (d : X) → i < length xs → p (get_or xs i d) ≡ false → filter p (remove xs i) ≡ filter p xs
  filter-remove [] i d less e = absurd (omega (arith, less))
  filter-remove (x ∷ xs) zero d less e = sym (filter-one x xs false e)
  filter-remove (x ∷ xs) (suc i) d less e = ap (λ l. cond (p x) (x ∷ l) l) (filter-remove xs i d (omega (arith, less)) e)

-- those in front of a place aren't over, and of the pools at the start only some that are over are gone
pub record IsClosing (now place : ℕ) (start left : List (Pool Bytes)) : Type 0 where
  pub within : place ≤ length left
  pub front : (k : ℕ) (d : Pool Bytes) → k < place → lasts now (get_or left k d) ≡ true
  pub kept : open_at now left ≡ open_at now start

pub closing-start : (now : ℕ) (start : List (Pool Bytes)) → IsClosing now 0 start start
closing-start now start = record { within = omega arith; front = λ k d less. absurd (omega (arith, less)); kept = refl }

-- the pool at the place isn't over
pub closing-last : (now place : ℕ) (start left : List (Pool Bytes)) → IsClosing now place start left → place < length left
    → ((d : Pool Bytes) → lasts now (get_or left place d) ≡ true) → IsClosing now (place + 1) start left
closing-last now place start left c less e = record {
  within = omega (arith, less);
  front = λ k d below. cases k d (nat_lt k place) refl below;
  kept = c.kept;
}
  where
    cases : (k : ℕ) (d : Pool Bytes) (b : Bool) → nat_lt k place ≡ b → k < place + 1 → lasts now (get_or left k d) ≡ true
    cases k d true t below = c.front k d (grind (arith, nat_tests))
    cases k d false t below =
        let same : place ≡ k = grind (arith, nat_tests) in
        subst (λ n. lasts now (get_or left n d) ≡ true) same (e d)

-- the pool at the place is over, and is removed
pub closing-over : (now place : ℕ) (start left next : List (Pool Bytes)) → IsClosing now place start left → place < length left
    → (d : Pool Bytes) → lasts now (get_or left place d) ≡ false → next ≡ remove left place
    → IsClosing now place start next
closing-over now place start left next c less d e r = record {
  within = omega (arith, less, ap length r, length-append (take place left) (drop (suc place) left), length-take place left, length-drop (suc place) left);
  front = λ k d below. ap (λ xs. lasts now (get_or xs k d)) r ∙ ap (lasts now) (get_or-remove_below left place d k below less) ∙ c.front k d below;
  kept = ap (open_at now) r ∙ filter-remove (lasts now) left place d less e ∙ c.kept;
}

-- no pool is left to look at
pub closing-end : (now place : ℕ) (start left : List (Pool Bytes)) → IsClosing now place start left → length left ≤ place → left ≡ open_at now start
closing-end now place start left c past = sym (filter-all (lasts now) left (λ k d less. c.front k d (omega (arith, less, past)))) ∙ c.kept
