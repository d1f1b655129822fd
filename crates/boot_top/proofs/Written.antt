-- What was written for an input, by what was watched of it.
use Rattle.std.proofs.Common.{◌≡◌, ◌⊎◌, ℕ, List, Option, Some, None, IfSome, inl, inr, sym, ◌∙◌}

-- the text of an input, where all of it was written
pub text-written : (left : Option (List ℕ)) (W : List ℕ → Type 0) (S : List ℕ → List ℕ → Type 0) (A : List ℕ → Type 0) (F : Type 0) (text : List ℕ) (status result : ℕ)
    → IfSome left W → ((input : List ℕ) → W input → S input text) → (result ≡ 5) ⊎ (result ≡ 6) ⊎ ((result ≡ status) × A text × F)
    → (5 ≡ status → ⊥) → (6 ≡ status → ⊥) → result ≡ status → IfSome left (λ input. (x : List ℕ) × S input x × A x)
text-written None W S A F text status result w says cases no_five no_six is = tt
text-written (Some input) W S A F text status result w says (inl five) no_five no_six is = absurd (no_five (sym five ∙ is))
text-written (Some input) W S A F text status result w says (inr (inl six)) no_five no_six is = absurd (no_six (sym six ∙ is))
text-written (Some input) W S A F text status result w says (inr (inr all)) no_five no_six is = (text, says input w, all.1)

-- a front of it, where not
pub front-written : (left : Option (List ℕ)) (W : List ℕ → Type 0) (N : Type 0) (S : List ℕ → List ℕ → Type 0) (A : List ℕ → Type 0) (text : List ℕ)
    → IfSome left W → ((input : List ℕ) → W input → S input text) → A text → IfSome left (λ input. N ⊎ ((x : List ℕ) × S input x × A x))
front-written None W N S A text w says a = tt
front-written (Some input) W N S A text w says a = inr (text, says input w, a)
