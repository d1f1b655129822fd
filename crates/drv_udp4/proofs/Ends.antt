-- What is found among tokens that are lent.
use Rattle.std.proofs.Common.{◌≡◌, sym, ap, ◌∙◌}

-- what was found among the tokens that were lent is what is found
pub found : {X Y : Type 0} (f : X → Y) {lent whole : X} {a b : Y} → lent ≡ whole → a ≡ f lent → a ≡ b → f whole ≡ b
found f e is same = ap f (sym e) ∙ sym is ∙ same
