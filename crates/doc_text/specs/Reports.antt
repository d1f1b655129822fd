-- The text of a report: seven lines, each ended by LF.
use Rattle.std.specs.Prelude.{ℕ, ◌&&◌, Bool, true, false, nat_le, List, [], ◌∷◌, ◌++◌, map, codes, decimal, Option, Some, None, if◌then◌else◌}
use Rattle.std.specs.List.{concat}
use Rattle.efi_base.specs.declared.plain.Peer.{Peer}
use Rattle.text_base.specs.Addresses.{dotted}
use Rattle.doc_text.specs.Ends.{numbered, download_word}
use Rattle.doc_text.specs.declared.report.Leased.{Leased}
use Rattle.doc_text.specs.declared.report.Report.{Report}

-- the octet where it is a visible ASCII character, else `?`
abbrev pub visible : ℕ → ℕ
visible octet = if nat_le 33 octet && nat_le octet 126 then octet else 63

-- the address and its mask, `-` where there is no lease
abbrev pub lease_words : Option Leased → List ℕ
lease_words None = codes "-"
lease_words (Some l) = dotted l.addr.0 ++ (codes " " ++ dotted l.mask)

-- the URI in visible characters, `-` where there is none
abbrev pub uri_word : Option (List ℕ) → List ℕ
uri_word None = codes "-"
uri_word (Some octets) = map visible octets

-- the address, `:` and the port, `-` where there is no peer
abbrev pub peer_word : Option Peer → List ℕ
peer_word None = codes "-"
peer_word (Some p) = dotted p.addr.0 ++ (codes ":" ++ decimal p.port)

-- whether the end of the stream was reached
abbrev pub fin_word : Bool → List ℕ
fin_word true = codes "fin"
fin_word false = codes "open"

-- how many octets were accepted, and whether the stream's end was reached
abbrev pub accepted_words : Report → List ℕ
accepted_words r = numbered (codes "accepted") r.accepted ++ (codes " " ++ fin_word r.fin)

-- when it ended, and how many records were sent and heard
abbrev pub counts_words : Report → List ℕ
counts_words r =
    numbered (codes "tick") r.tick.0 ++ (codes " " ++ (numbered (codes "sent") r.sent
    ++ (codes " " ++ numbered (codes "heard") r.heard)))

-- the lines, without their ends
abbrev pub report_lines : Report → List (List ℕ)
report_lines r =
    codes "efiboot report 1"
    ∷ (codes "lease " ++ lease_words r.lease)
    ∷ (codes "uri " ++ uri_word r.uri)
    ∷ (codes "peer " ++ peer_word r.peer)
    ∷ accepted_words r
    ∷ (codes "outcome " ++ download_word r.outcome)
    ∷ counts_words r
    ∷ []

-- the line with its end
abbrev pub ended : List ℕ → List ℕ
ended line = line ++ 10 ∷ []

-- the report: its lines one after the other
abbrev pub report_text : Report → List ℕ
report_text r = concat (map ended (report_lines r))
