use Rattle.drv_ip4.specs.Others.{others_stay}
use Rattle.drv_ip4.proofs.laws.a_packet_ends_receives_of_its_hearers_alone.Goals as goal

pub returns : goal.returns
returns c = others_stay
