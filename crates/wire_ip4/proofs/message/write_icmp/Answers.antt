-- The text is read again.
use Rattle.std.proofs.Common.{◌≡◌, Some, ◌++◌, ap, ◌∙◌}
use Rattle.efi_base.specs.Checksum.{checksum_of}
use Rattle.efi_base.specs.Writes.{Writes}
use Rattle.wire_ip4.specs.Message.{IsIcmpMessage, front_text, message_of, message_text}
use Rattle.wire_ip4.specs.Seen.{message_seen}
use Rattle.wire_ip4.proofs.Again.{message-again}
use Rattle.efi_base.proofs.Written.{front-read}
use Rattle.wire_ip4.proofs.message.write_icmp.Goals as goal

pub returns-clause-again : goal.returns-clause-again
returns-clause-again c =
    let seen = message_seen c.args.v.now in
    let sum : c.sum_of-sum.result ≡ checksum_of (front_text seen 0 ++ seen.payload) = c.sum_of-sum.ensures.sum ∙ ap (λ front. checksum_of (front ++ seen.payload)) c.front_of.ensures.text in
    let front : c.front_of-2.result ≡ front_text seen (checksum_of (front_text seen 0 ++ seen.payload)) = c.front_of-2.ensures.text ∙ ap (front_text seen) sum in
    let written : Writes (message_text seen) c.args.room.now c.put_parts.result c.put_parts.new.room = rw front at c.put_parts.ensures in
    let f = c.front_of.ensures in
    let spelled : IsIcmpMessage seen = record { kind = f.kind; code = f.code; rest = f.rest; payload = c.sum_of-sum.ensures.payload } in
    front-read message_of (message_text seen) _ _ _ (Some seen) written (message-again seen spelled)
