use Rattle.wire_dhcp.proofs.Sizes.{grant-size}
use Rattle.wire_dhcp.proofs.laws.answers_of_a_server_are_short.Goals as goal

pub returns : goal.returns
returns c = grant-size
