-- The text alone, which is read again.
use Rattle.std.proofs.Common.{[], ap, sym, ◌∙◌}
use Rattle.std.proofs.lemmas.List.{append-nil}
use Rattle.wire_link.specs.Arp.{arp_of, arp_text}
use Rattle.wire_link.specs.Seen.{arp_seen}
use Rattle.wire_link.proofs.Again.{arp-again}
use Rattle.efi_base.proofs.Written.{front-read}
use Rattle.wire_link.proofs.Alone.{header-alone}
use Rattle.wire_link.proofs.resolution.write_arp.Goals as goal

pub returns-clause-written : goal.returns-clause-written
returns-clause-written c = header-alone _ _ _ _ _ c.text_of.ensures.text c.put_parts.ensures

pub returns-clause-again : goal.returns-clause-again
returns-clause-again c =
    let read = arp-again (arp_seen c.args.v.now) [] c.text_of.ensures.spelled in
    let alone = append-nil (arp_text (arp_seen c.args.v.now)) in
    front-read arp_of (arp_text (arp_seen c.args.v.now)) _ _ _ _ (header-alone _ _ _ _ _ c.text_of.ensures.text c.put_parts.ensures) (sym (ap arp_of alone) ∙ read)
