use Rattle.std.proofs.Common.{if◌then◌else◌}
use Rattle.tcp_conn.specs.declared.state.ConnState.TheVariants.{Closed}
use Rattle.tcp_conn.specs.declared.state.ConnEnd.TheVariants.{Fin}
use Rattle.tcp_conn.specs.Segments.{by_state}
use Rattle.tcp_conn.specs.Calls.{is_waited}
use Rattle.tcp_conn.proofs.Ended.{ended-sends, ended-stays, ended-over}
use Rattle.tcp_conn.proofs.laws.ended_connections_are_silent.Goals as goal

pub returns-clause-sends : goal.returns-clause-sends
returns-clause-sends c = ended-sends

pub returns-clause-stays : goal.returns-clause-stays
returns-clause-stays c = ended-stays

pub returns-clause-hears : goal.returns-clause-hears
returns-clause-hears c = λ k now s h. ended-over k (by_state k.state (record k { at = now }) s) h

pub returns-clause-ticks : goal.returns-clause-ticks
returns-clause-ticks c =
    λ k now h. ended-over k (if is_waited k.state k.since now then record k { at = now; state = Closed Fin } else record k { at = now }) h
