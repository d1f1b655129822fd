use Rattle.std.proofs.Common.{◌≡◌, ◌+◌, ◌++◌, length}
use Rattle.std.specs.Option.{option_map}
use Rattle.text_base.specs.Addresses.{ip_of}
use Rattle.session_text.specs.Words.{few_words}
use Rattle.session_text.proofs.lan.servers_of.Given as goal

abbrev pub invariant-loop-left : goal.invariant-loop-left
invariant-loop-left l =
    (few_words ip_of 3 l.text ≡ option_map (λ later. l.servers ++ later) (few_words ip_of l.left l.rest)) × (length l.servers + l.left ≡ 3)

abbrev pub decreases-loop-left : goal.decreases-loop-left
decreases-loop-left l = l.left
