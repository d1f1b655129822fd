use Rattle.wire_dhcp.proofs.Again.{message-again}
use Rattle.wire_dhcp.proofs.laws.written_message_is_read_again.Goals as goal

pub returns : goal.returns
returns c = message-again
