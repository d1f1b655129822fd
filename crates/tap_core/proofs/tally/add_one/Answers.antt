-- The station's count is one more, and the others' stay.
use Rattle.std.proofs.Common.{◌+◌, ◌∙◌, ap}
use Rattle.tap_core.proofs.Counts.{added-one}
use Rattle.tap_core.proofs.tally.add_one.Goals as goal

pub returns : goal.returns
returns c = λ other.
    added-one c.args.sent.now c.insert.new.self c.args.station.0 other c.in_ok-count.count (c.in_ok-count.ensures ∙ ap (λ n. n + 1) c.sent_by.ensures) (c.in_ok-insert.ensures.updates.0 other)
