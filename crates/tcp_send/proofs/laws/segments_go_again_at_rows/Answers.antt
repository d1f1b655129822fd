use Rattle.tcp_send.proofs.TickLaw.{goes-again, new-alone}
use Rattle.tcp_send.proofs.laws.segments_go_again_at_rows.Goals as goal

pub returns-clause-again : goal.returns-clause-again
returns-clause-again c = goes-again

pub returns-clause-new : goal.returns-clause-new
returns-clause-new c = new-alone
