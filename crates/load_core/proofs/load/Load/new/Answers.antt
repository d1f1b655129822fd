-- Nothing was taken in.
use Rattle.std.proofs.Common.{arith, refl}
use Rattle.load_core.specs.Taken.{HasTaken}
use Rattle.load_core.proofs.HeadRuns.{nothing-no, nothing-may}
use Rattle.load_core.proofs.load.Load.new.Goals as goal

pub returns : goal.returns
unfolding HasTaken
returns c = (
  refl,
  record {
    kept_is = c.new.ensures.items;
    short = omega arith;
    none = nothing-no;
    may = nothing-may;
    placed_is = c.new-2.ensures.items;
  },
  refl,
)
