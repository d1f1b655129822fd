use Rattle.load_core.proofs.CaseLaws.{case-one}
use Rattle.load_core.proofs.laws.case_is_one.Goals as goal

pub returns : goal.returns
returns c = case-one
