use Rattle.tcp_send.proofs.Courses.{courses}
use Rattle.tcp_send.proofs.laws.calls_give_true_cuts.Goals as goal

pub returns : goal.returns
returns c = courses
