-- The octets that were placed.
use Rattle.std.proofs.Common.{◌∙◌}
use Rattle.load_core.specs.Taken.{HasTaken}
use Rattle.load_core.proofs.Standing.{placed-whole, placed-so_far, placed-none}
use Rattle.load_core.proofs.load.Load.into_body.Goals as goal

pub returns-clause-whole : goal.returns-clause-whole
unfolding HasTaken
returns-clause-whole c most stream h fin body whole fits = c.from_vec.ensures ∙ placed-whole _ _ _ most stream fin body h.1 whole fits

pub returns-clause-so_far : goal.returns-clause-so_far
unfolding HasTaken
returns-clause-so_far c most stream h octets so_far = c.from_vec.ensures ∙ placed-so_far _ _ _ most stream octets h.1 so_far

pub returns-clause-none : goal.returns-clause-none
unfolding HasTaken
returns-clause-none c most stream h none = c.from_vec.ensures ∙ placed-none _ _ _ most stream h.1 none
