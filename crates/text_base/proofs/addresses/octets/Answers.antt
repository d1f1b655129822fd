use Rattle.text_base.proofs.Digits.{mac_octets}
use Rattle.text_base.proofs.addresses.octets.Goals as goal

pub octet_at-requires-clause-digits : goal.octet_at-requires-clause-digits
octet_at-requires-clause-digits c = (mac_octets c.args.text.now c.requires).0

pub octet_at-requires-2-clause-digits : goal.octet_at-requires-2-clause-digits
octet_at-requires-2-clause-digits c = (mac_octets c.args.text.now c.requires).1

pub octet_at-requires-3-clause-digits : goal.octet_at-requires-3-clause-digits
octet_at-requires-3-clause-digits c = (mac_octets c.args.text.now c.requires).2

pub octet_at-requires-4-clause-digits : goal.octet_at-requires-4-clause-digits
octet_at-requires-4-clause-digits c = (mac_octets c.args.text.now c.requires).3

pub octet_at-requires-5-clause-digits : goal.octet_at-requires-5-clause-digits
octet_at-requires-5-clause-digits c = (mac_octets c.args.text.now c.requires).4

pub octet_at-requires-6-clause-digits : goal.octet_at-requires-6-clause-digits
octet_at-requires-6-clause-digits c = (mac_octets c.args.text.now c.requires).5
