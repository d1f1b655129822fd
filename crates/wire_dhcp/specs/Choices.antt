-- Which offer a station takes.
use Rattle.std.specs.Prelude.{◌==◌, if◌then◌else◌}
use Rattle.wire_dhcp.specs.declared.choosing.Choice.{Choice}
use Rattle.wire_dhcp.specs.declared.choosing.Choice.TheVariants.{Select, Wait, Abort}
use Rattle.wire_dhcp.specs.declared.choosing.ChooseRule.{ChooseRule}
use Rattle.wire_dhcp.specs.declared.choosing.ChooseRule.TheVariants.{Http, Any, Never, Stop, From}
use Rattle.wire_dhcp.specs.declared.says.Offer.{Offer}

-- an HTTP offer, any, none, none and no more waiting, or one of this server
abbrev pub choice_of : ChooseRule → Offer → Choice
choice_of Http offer = if offer.http then Select else Wait
choice_of Any offer = Select
choice_of Never offer = Wait
choice_of Stop offer = Abort
choice_of (From server) offer = if offer.server.0 == server.0 then Select else Wait
