-- The record is one that the station sent, or one that it heard.
use Rattle.std.proofs.Common.{◌∙◌, refl, sym, ap}
use Rattle.tap_core.specs.Frames.{is_sent}
use Rattle.tap_core.proofs.Counts.{counted-sent, counted-heard}
use Rattle.tap_core.proofs.telling.count_one.Goals as goal

pub returns-then-is_sent : goal.returns-then-is_sent
returns-then-is_sent c = λ o records e counted.
    let r = c.args.«record».now in
    counted-sent records r o c.args.counts _ counted (ap (λ s. is_sent s r.frame) e ∙ ap (is_sent c.args.station.0) (sym c.as_slice.ensures) ∙ sym c.is_sent.ensures ∙ c.if-is_sent.true) c.in_ok-sent.ensures refl refl

pub returns : goal.returns
returns c = λ o records e counted.
    let r = c.args.«record».now in
    counted-heard records r o c.args.counts _ counted (ap (λ s. is_sent s r.frame) e ∙ ap (is_sent c.args.station.0) (sym c.as_slice.ensures) ∙ sym c.is_sent.ensures ∙ c.if-is_sent.false) refl c.in_ok-heard.ensures refl
