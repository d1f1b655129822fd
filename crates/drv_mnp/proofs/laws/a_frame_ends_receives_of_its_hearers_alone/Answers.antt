use Rattle.drv_mnp.specs.Others.{others_stay}
use Rattle.drv_mnp.proofs.laws.a_frame_ends_receives_of_its_hearers_alone.Goals as goal

pub returns : goal.returns
returns c = others_stay
