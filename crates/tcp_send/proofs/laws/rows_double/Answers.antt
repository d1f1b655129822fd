use Rattle.std.proofs.Common.{refl}
use Rattle.tcp_send.specs.Rows.{row_at}
use Rattle.tcp_send.proofs.laws.rows_double.Goals as goal

pub returns-clause-segment : goal.returns-clause-segment
unfolding row_at
returns-clause-segment c = refl

pub returns-clause-segment_end : goal.returns-clause-segment_end
unfolding row_at
returns-clause-segment_end c = refl

pub returns-clause-syn_end : goal.returns-clause-syn_end
unfolding row_at
returns-clause-syn_end c = refl
