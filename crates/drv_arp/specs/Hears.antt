-- What a heard packet does (RFC 826, "Packet reception").
use Rattle.std.specs.Prelude.{ℕ, ◌==◌, nat_lt, is_some, List, [], ◌∷◌, Option, Some, None, option_map, if◌then◌else◌}
use Rattle.efi_book.specs.Cores.{in_outbox}
use Rattle.efi_book.specs.Families.{Family}
use Rattle.efi_book.specs.Outboxes.{asked}
use Rattle.efi_book.specs.declared.children.Child.{Child}
use Rattle.arp_cache.specs.Caches.{after_heard, reply_of}
use Rattle.wire_link.specs.declared.resolution.Arp.{Arp}
use Rattle.drv_arp.specs.declared.asks.ArpCfg.{ArpCfg}
use Rattle.drv_arp.specs.declared.ours.Claim.{Claim}
use Rattle.drv_arp.specs.declared.stations.Station.{Station}
use Rattle.drv_arp.specs.Stations.{station_at}
use Rattle.drv_arp.specs.Arps.{ArpState, in_drive, in_entries, known, answered}

-- the child as one that has the address, where it is configured with it
abbrev pub claim_by : Option ArpCfg → ℕ → ℕ → Option Claim
claim_by None serial ip = None
claim_by (Some c) serial ip = if c.ip.0 == ip then Some (record { serial = serial; entry = c.entry }) else None

abbrev pub claim : ℕ → Child (Option ArpCfg) → Option Claim
claim ip child = claim_by child.value child.serial ip

abbrev pub or_else : Option Claim → Option Claim → Option Claim
or_else None b = b
or_else (Some a) b = Some a

-- the first child of a list that has the address
abbrev pub first_claim : ℕ → List (Child (Option ArpCfg)) → Option Claim
first_claim ip [] = None
first_claim ip (c ∷ cs) = or_else (claim ip c) (first_claim ip cs)

abbrev pub older : Option Claim → Option Claim → Option Claim
older None b = b
older (Some a) None = Some a
older (Some a) (Some b) = if nat_lt b.serial a.serial then Some b else Some a

-- the station as one that has the address
abbrev pub station_claim : List Station → ℕ → Option Claim
station_claim ss ip = option_map (λ (s : Station). record { serial = s.since; entry = 0 }) (station_at ss ip)

-- the oldest that has the address, of the station, callers' children and the stack's own
abbrev pub oldest_claim : List Station → Family (Option ArpCfg) → ℕ → Option Claim
oldest_claim ss f ip = older (station_claim ss ip) (older (first_claim ip f.live) (first_claim ip f.own))

-- the sender's entry is refreshed, and its pair is added where the target is an address of the station or of a child, with
-- the life that the oldest of these gives
abbrev pub noted : ArpState → Arp → Option Claim → ArpState
noted s a o = in_entries s (after_heard (known s) a s.moment (option_map (λ (c : Claim). c.entry) o))

abbrev pub with_reply : ArpState → Option Arp → ArpState
with_reply s None = s
with_reply s (Some m) = in_drive s (in_outbox s.drive (asked s.drive.outbox m))

-- then a request for such an address is answered, and at last the pending requests end whose address is known
abbrev pub heard_by : ArpState → Arp → Option Claim → ArpState
heard_by s a o = answered (with_reply (noted s a o) (reply_of a s.mac (is_some o)))

abbrev pub heard : ArpState → Arp → ArpState
heard s a = heard_by s a (oldest_claim s.stations s.drive.family a.tpa.0)
