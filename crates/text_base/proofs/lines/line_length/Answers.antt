use Rattle.std.proofs.Common.{ℕ, List, Option, Some, None, MatchOption, ◌≡◌, ◌==◌, ◌-◌, true, length, take, drop, position, subst, arith}
use Rattle.std.proofs.lemmas.Grind.{common_steps}
use Rattle.std.specs.List.{list_all}
use Rattle.text_base.specs.Lines.{IsLine, is_plain}
use Rattle.text_base.proofs.LineLaw.{line_there, no_line_there}
use Rattle.text_base.proofs.lines.line_length.Goals as goal

found_line : (octets : List ℕ) (found : Option ℕ) → found ≡ position (λ b. b == 10) octets
    → MatchOption found (list_all is_plain octets ≡ true) (λ i. IsLine octets i)
found_line octets None is = no_line_there octets is
found_line octets (Some i) is = line_there octets i is

rest_is : (octets : List ℕ) (start : ℕ) → take (length octets - start) (drop start octets) ≡ drop start octets
rest_is octets start = grind (arith, common_steps)

pub returns : goal.returns
returns c =
    let octets = c.args.octets.now in
    let rest : List ℕ = take (length octets - c.args.start) (drop c.args.start octets) in
    subst (λ (xs : List ℕ). MatchOption c.place_of.result (list_all is_plain xs ≡ true) (λ i. IsLine xs i)) (rest_is octets c.args.start)
    (found_line rest c.place_of.result c.place_of.ensures.place)
