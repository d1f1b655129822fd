-- Options, and choices by tests.
use Rattle.std.proofs.Common.{◌≡◌, ℕ, Bool, true, false, List, ◌++◌, Option, Some, None, if◌then◌else◌, refl, ap, append_assoc}
use Rattle.std.specs.Option.{option_map}
use Rattle.wire_dns.specs.Parts.{followed}

pub if-true : {A : Type 0} (b : Bool) (x y : A) → b ≡ true → (if b then x else y) ≡ x
if-true true x y h = refl
if-true false x y h = absurd (cc)

pub if-false : {A : Type 0} (b : Bool) (x y : A) → b ≡ false → (if b then x else y) ≡ y
if-false true x y h = absurd (cc)
if-false false x y h = refl

-- a text behind a text
pub followed-twice : (a b : List ℕ) (rest : Option (List ℕ)) → followed a (followed b rest) ≡ followed (a ++ b) rest
followed-twice a b None = refl
followed-twice a b (Some more) = ap (λ t. Some t) (append_assoc' a b more)
  where
    append_assoc' : (a b c : List ℕ) → a ++ (b ++ c) ≡ (a ++ b) ++ c
    append_assoc' a b c = rw append_assoc refl

-- no text in front
pub followed-nothing : (rest : Option (List ℕ)) → option_map (λ more. more) rest ≡ rest
followed-nothing None = refl
followed-nothing (Some more) = refl
