-- A record goes to its stage, and behind the end it changes nothing.
use Rattle.std.proofs.Common.{subst}
use Rattle.tap_core.specs.Tapping.{StandsFor}
use Rattle.tap_core.proofs.Tapped.{ended-next}
use Rattle.tap_core.proofs.stages.next_stage.Goals as goal

pub returns-in-Opening-clause-stands : goal.returns-in-Opening-clause-stands
returns-in-Opening-clause-stands c = λ records st. c.hear_first.ensures c.args.most records (subst (StandsFor c.args.most records) c.in-Opening.is st)

pub returns-in-Ended-clause-stands : goal.returns-in-Ended-clause-stands
returns-in-Ended-clause-stands c = λ records st. ended-next c.args.most records c.args.«record» c.in-Ended.seen (subst (StandsFor c.args.most records) c.in-Ended.is st)
