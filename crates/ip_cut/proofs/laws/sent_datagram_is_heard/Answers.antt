use Rattle.ip_cut.proofs.Rejoined.{heard_whole}
use Rattle.ip_cut.proofs.laws.sent_datagram_is_heard.Goals as goal

pub returns : goal.returns
returns c = heard_whole
