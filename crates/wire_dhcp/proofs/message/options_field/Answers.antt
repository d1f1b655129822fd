use Rattle.std.proofs.lemmas.List.{take_rest}
use Rattle.wire_dhcp.proofs.message.options_field.Goals as goal

pub returns-clause-field : goal.returns-clause-field
returns-clause-field c = take_rest c.args.octets.now 240
