-- The fields are the station's.
use Rattle.std.proofs.Common.{subst}
use Rattle.efi_base.specs.Writes.{Writes}
use Rattle.wire_dhcp.specs.Sent.{renewal_text, padded, renewal_options}
use Rattle.wire_dhcp.specs.Spelling.{dhcp_text}
use Rattle.wire_dhcp.proofs.sending.write_renewal.Goals as goal

pub returns : goal.returns
unfolding renewal_text
returns c =
    subst (λ f. Writes (padded (dhcp_text f renewal_options)) c.args.room.now c.put_padded.result c.put_padded.new.room) c.station_fields.ensures c.put_padded.ensures
