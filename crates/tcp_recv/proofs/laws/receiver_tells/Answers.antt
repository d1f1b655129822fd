use Rattle.tcp_recv.proofs.Courses.{stands-start, tells-accepted, tells-ended, tells-given}
use Rattle.tcp_recv.proofs.laws.receiver_tells.Goals as goal

pub returns-clause-begins : goal.returns-clause-begins
returns-clause-begins c = stands-start

pub returns-clause-given : goal.returns-clause-given
returns-clause-given c = tells-given

pub returns-clause-accepted : goal.returns-clause-accepted
returns-clause-accepted c = tells-accepted

pub returns-clause-ended : goal.returns-clause-ended
returns-clause-ended c = tells-ended
