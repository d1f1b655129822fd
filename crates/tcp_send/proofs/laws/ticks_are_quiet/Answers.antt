use Rattle.tcp_send.proofs.TickLaw.{due-later, due-there, over-after, quiet-after, quiet-cut}
use Rattle.tcp_send.proofs.laws.ticks_are_quiet.Goals as goal

pub returns-clause-cut : goal.returns-clause-cut
returns-clause-cut c = λ s now short over begun later. quiet-cut s now over (due-later s now short begun later)

pub returns-clause-sender : goal.returns-clause-sender
returns-clause-sender c = λ s now short over begun later. quiet-after s now over (due-later s now short begun later)

pub returns-clause-over : goal.returns-clause-over
returns-clause-over c = over-after

pub returns-clause-due : goal.returns-clause-due
returns-clause-due c = due-there
