use Rattle.ip_core.proofs.Best.{finds-best}
use Rattle.ip_core.proofs.routes.Routes.route.Goals as goal

pub returns-in-Some-clause-longest : goal.returns-in-Some-clause-longest
returns-in-Some-clause-longest c = finds-best c.args.dest.0 c.args.self.now

pub returns-in-None-clause-longest : goal.returns-in-None-clause-longest
returns-in-None-clause-longest c = finds-best c.args.dest.0 c.args.self.now
