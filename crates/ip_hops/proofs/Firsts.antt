-- What stands where a search found it.
use Rattle.std.proofs.Common.{◌≡◌, ℕ, Bool, List, length, get_or, slice_get, Option, Some, refl, sym, ap, ◌∙◌}
use Rattle.std.specs.Option.{option_and_then}
use Rattle.std.specs.List.{position}
use Rattle.std.proofs.lemmas.Option.{slice_get_read}
use Rattle.std.proofs.lemmas.List.Quantifiers.{position-Some}

pub first_read : {X : Type 0} (test : X → Bool) (xs now : List X) (i : ℕ) (x : X) (found : Option ℕ)
    → found ≡ position test now → found ≡ Some i → now ≡ xs → x ≡ get_or xs i x → Some x ≡ option_and_then (λ (k : ℕ). slice_get xs k) (position test xs)
first_read test xs now i x found at is same read =
    let e : position test xs ≡ Some i = ap (λ l. position test l) (sym same) ∙ sym at ∙ is in
    let within = position-Some test xs i x e in
    sym (ap (option_and_then (λ (k : ℕ). slice_get xs k)) e ∙ slice_get_read xs (length xs) i x refl within.0 read)
