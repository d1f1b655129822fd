use Rattle.std.proofs.Common.{◌≡◌, ◌+◌, ◌++◌, length}
use Rattle.std.specs.Option.{option_map}
use Rattle.session_text.specs.Lan.{offer_of}
use Rattle.session_text.specs.Words.{few_words}
use Rattle.session_text.proofs.lan.offers_of.Given as goal

abbrev pub invariant-loop-left : goal.invariant-loop-left
invariant-loop-left l =
    (few_words offer_of 8 l.text ≡ option_map (λ later. l.offers ++ later) (few_words offer_of l.left l.rest)) × (length l.offers + l.left ≡ 8)

abbrev pub decreases-loop-left : goal.decreases-loop-left
decreases-loop-left l = l.left
