use Rattle.wire_dhcp.proofs.Sizes.{discover-size, request-size, renewal-size, release-size}
use Rattle.wire_dhcp.proofs.laws.messages_of_a_station_have_their_lengths.Goals as goal

pub returns-clause-discover : goal.returns-clause-discover
returns-clause-discover c = discover-size

pub returns-clause-request : goal.returns-clause-request
returns-clause-request c = request-size

pub returns-clause-renewal : goal.returns-clause-renewal
returns-clause-renewal c = renewal-size

pub returns-clause-release : goal.returns-clause-release
returns-clause-release c = release-size
