use Rattle.std.proofs.Common.{ap, sym, arith}
use Rattle.tcp_send.specs.Rows.{row_at}
use Rattle.tcp_send.proofs.RowTable.{row-of}
use Rattle.tcp_send.proofs.backoff.row_at.Goals as goal

pub returns-in-0-clause-at : goal.returns-in-0-clause-at
unfolding row_at
returns-in-0-clause-at c = ap row_at (sym c.in-0.is)

pub returns-in-1-clause-at : goal.returns-in-1-clause-at
unfolding row_at
returns-in-1-clause-at c = ap row_at (sym c.in-1.is)

pub returns-in-2-clause-at : goal.returns-in-2-clause-at
unfolding row_at
returns-in-2-clause-at c = ap row_at (sym c.in-2.is)

pub returns-in_default-clause-at : goal.returns-in_default-clause-at
returns-in_default-clause-at c = sym (row-of c.args.passed (omega arith))
