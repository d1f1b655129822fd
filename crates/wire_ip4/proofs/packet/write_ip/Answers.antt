-- The text is read again.
use Rattle.std.proofs.Common.{◌≡◌, Some, [], ◌++◌, ap, sym, ◌∙◌}
use Rattle.std.proofs.lemmas.List.{append-nil}
use Rattle.efi_base.specs.Checksum.{checksum_of}
use Rattle.efi_base.specs.Writes.{Writes}
use Rattle.wire_ip4.specs.Packet.{header_text, packet_of, packet_text}
use Rattle.wire_ip4.specs.Seen.{packet_seen}
use Rattle.wire_ip4.proofs.Again.{packet-again}
use Rattle.efi_base.proofs.Written.{front-read}
use Rattle.wire_ip4.proofs.packet.write_ip.Goals as goal

pub returns-clause-again : goal.returns-clause-again
returns-clause-again c =
    let seen = packet_seen c.args.v.now in
    let sum : c.checksum-sum.result ≡ checksum_of (header_text seen 0) = c.checksum-sum.ensures ∙ ap (λ header. checksum_of (header ++ [])) c.header_of.ensures.text in
    let header : c.header_of-2.result ≡ header_text seen (checksum_of (header_text seen 0)) = c.header_of-2.ensures.text ∙ ap (header_text seen) sum in
    let written : Writes (packet_text seen) c.args.room.now c.put_parts.result c.put_parts.new.room = rw header at c.put_parts.ensures in
    front-read packet_of (packet_text seen) _ _ _ (Some seen) written (sym (ap packet_of (append-nil (packet_text seen))) ∙ packet-again seen [] c.header_of.ensures.spelled)
