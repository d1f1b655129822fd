-- What ARP sends, as frames for MNP (RFC 826).
use Rattle.std.specs.Prelude.{ℕ, Bool, ◌==◌, ◌||◌, List, [], ◌∷◌, if◌then◌else◌}
use Rattle.wire_link.specs.Arp.{arp_text}
use Rattle.wire_link.specs.Seen.{arp_seen}
use Rattle.wire_link.specs.declared.resolution.Arp.{Arp}
use Rattle.efi_book.specs.Cores.{in_outbox}
use Rattle.efi_book.specs.Outboxes.{Waiting}
use Rattle.drv_mnp.specs.Mnps.{MnpState, framed}
use Rattle.drv_arp.specs.Arps.{ArpState, in_drive}

-- a request goes to all stations, a reply to its target
abbrev pub dest_of : Arp → List ℕ
dest_of a = if a.op == 1 then 255 ∷ 255 ∷ 255 ∷ 255 ∷ 255 ∷ 255 ∷ [] else a.tha.0

abbrev pub is_operation : ℕ → Bool
is_operation op = op == 1 || op == 2

-- a packet's frame of type 0x0806 stands behind the others, and nobody waits for it
abbrev pub carried : MnpState → Arp → MnpState
carried m a = if is_operation a.op then framed m (dest_of a) 2054 (arp_text (arp_seen a)) 0 else m

abbrev pub all_carried : MnpState → List Arp → MnpState
all_carried m [] = m
all_carried m (a ∷ rest) = all_carried (carried m a) rest

abbrev pub no_messages : {M : Type 0} → Waiting M → Waiting M
no_messages b = record { messages = []; spare = b.spare }

-- nothing is left to be sent
abbrev pub emptied : ArpState → ArpState
emptied d = in_drive d (in_outbox d.drive (no_messages d.drive.outbox))
