-- The fields are the station's.
use Rattle.std.proofs.Common.{subst}
use Rattle.efi_base.specs.Writes.{Writes}
use Rattle.wire_dhcp.specs.Sent.{discover_text, padded, discover_options}
use Rattle.wire_dhcp.specs.Spelling.{dhcp_text}
use Rattle.wire_dhcp.proofs.sending.write_discover.Goals as goal

pub returns : goal.returns
unfolding discover_text
returns c =
    subst (λ f. Writes (padded (dhcp_text f discover_options)) c.args.room.now c.put_padded.result c.put_padded.new.room) c.station_fields.ensures c.put_padded.ensures
