-- A fourth is passed over.
use Rattle.std.proofs.Common.{length, sym, ap, ◌∙◌}
use Rattle.std.proofs.lemmas.List.{take_at}
use Rattle.wire_dhcp.proofs.lease.put_server.Goals as goal

pub returns-then-as_slice-eq3-clause-servers : goal.returns-then-as_slice-eq3-clause-servers
returns-then-as_slice-eq3-clause-servers c = sym (take_at c.args.servers.now _ 3 (ap length (sym c.as_slice.ensures) ∙ c.if-as_slice-eq3.true))
