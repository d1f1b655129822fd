use Rattle.tcp_recv.proofs.Courses.{steps-front}
use Rattle.tcp_recv.proofs.laws.steps_give_front.Goals as goal

pub returns : goal.returns
returns c = steps-front
