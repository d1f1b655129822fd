use Rattle.std.proofs.Common.{◌++◌, List, ℕ, sym, ap, append-nil, ◌∙◌}
use Rattle.text_base.proofs.Digits.{hex_there, octets_left}
use Rattle.text_base.proofs.hex.hex_octets.Goals as goal

pub hex_value-requires : goal.hex_value-requires
hex_value-requires c = (hex_there c.args.text.now c.loop-place.place c.loop-place-test.true c.loop-place.invariant.1).0

pub hex_value-requires-in-loop-place : goal.hex_value-requires-in-loop-place
hex_value-requires-in-loop-place c = (hex_there c.args.text.now c.loop-place.place c.loop-place-test.true c.loop-place.invariant.1).1

pub returns : goal.returns
returns c =
    sym (append-nil c.loop-place.octets.items)
    ∙ ap (λ (rest : List ℕ). c.loop-place.octets.items ++ rest) (sym (octets_left c.args.text.now c.loop-place.place c.loop-place-test.false))
    ∙ c.loop-place.invariant.2
