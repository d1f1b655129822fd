use Rattle.drv_udp4.specs.Others.{others_stay}
use Rattle.drv_udp4.proofs.laws.a_datagram_ends_receives_of_its_hearers_alone.Goals as goal

pub returns : goal.returns
returns c = others_stay
