-- The limit.
use Rattle.std.proofs.Common.{arith, length-take}
use Rattle.std.proofs.lemmas.List.{take_all}
use Rattle.load_core.proofs.load.most_heads.Goals as goal

pub returns-clause-most : goal.returns-clause-most
returns-clause-most c = omega (arith, length-take c.min.result c.args.kept.now, c.min.ensures)

pub returns-clause-all : goal.returns-clause-all
returns-clause-all c short = take_all c.min.result c.args.kept.now (omega (arith, short, c.min.ensures))
