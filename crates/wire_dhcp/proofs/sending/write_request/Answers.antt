-- The fields are the station's, and the addresses are those of the offer.
use Rattle.std.proofs.Common.{[], ◌∷◌, subst}
use Rattle.byteorder.specs.Endian.{big_bytes}
use Rattle.efi_base.specs.Writes.{Writes}
use Rattle.wire_dhcp.specs.Sent.{request_text, padded, request_options, option, asked_for}
use Rattle.wire_dhcp.specs.Spelling.{dhcp_text}
use Rattle.wire_dhcp.proofs.sending.write_request.Goals as goal

pub returns : goal.returns
unfolding request_text
returns c =
    subst (λ f. Writes (padded (dhcp_text f (request_options c.args.ip c.args.server))) c.args.room.now c.put_padded.result c.put_padded.new.room)
    c.station_fields.ensures
    (subst (λ a. Writes (padded (dhcp_text c.station_fields.result (option 53 (3 ∷ []) ∷ option 50 a ∷ option 54 (big_bytes 4 c.args.server.0) ∷ asked_for)))
    c.args.room.now c.put_padded.result c.put_padded.new.room) c.four_octets-ip.ensures
    (subst (λ b. Writes (padded (dhcp_text c.station_fields.result (option 53 (3 ∷ []) ∷ option 50 c.four_octets-ip.result ∷ option 54 b ∷ asked_for)))
    c.args.room.now c.put_padded.result c.put_padded.new.room) c.four_octets-server.ensures c.put_padded.ensures))
