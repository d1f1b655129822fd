-- The driver as contracts see it, and what its calls answer and leave.
use Rattle.std.specs.Prelude.{ℕ, Bool, not, is_none, List, [], ◌∷◌, filter_map, map, Option, Some, None, option_map}
use Rattle.efi_base.specs.Refusals.{first_of, refuse_if}
use Rattle.efi_base.specs.declared.plain.Ip4.{Ip4}
use Rattle.efi_base.specs.declared.plain.Mac.{Mac}
use Rattle.efi_base.specs.declared.plain.Tick.{Tick}
use Rattle.efi_base.specs.declared.refuse.Refuse.{Refuse}
use Rattle.efi_base.specs.declared.refuse.Refuse.TheVariants.{NotFound, NotStarted}
use Rattle.efi_base.specs.declared.tokens.ChildId.{ChildId}
use Rattle.efi_base.specs.declared.tokens.End.TheVariants.{Success}
use Rattle.efi_base.specs.declared.tokens.Owner.{Owner}
use Rattle.efi_book.specs.Books.{Tokens, with_pending, completed_with}
use Rattle.efi_book.specs.Cores.{Drive, start, id_of, in_tokens, in_outbox, cfg_of, configure_refusal}
use Rattle.efi_book.specs.Families.{handle_refusal}
use Rattle.efi_book.specs.Outboxes.{asked}
use Rattle.efi_book.specs.declared.ends.Done.{Done}
use Rattle.efi_book.specs.declared.ends.Pending.{Pending}
use Rattle.efi_book.specs.declared.ends.Raised.{Raised}
use Rattle.arp_cache.specs.Caches.{add_refusal, after_flush, after_time, delete_refusal, entered, flush_refusal, has, without}
use Rattle.arp_cache.specs.Entries.{mac_of}
use Rattle.arp_cache.specs.declared.entry.Entry.{Entry}
use Rattle.wire_link.specs.declared.resolution.Arp.{Arp}
use Rattle.drv_arp.specs.declared.asks.ArpCfg.{ArpCfg}
use Rattle.drv_arp.specs.declared.asks.ArpWork.{ArpWork}
use Rattle.drv_arp.specs.declared.asks.Ask.{Ask}
use Rattle.drv_arp.specs.declared.stations.Station.{Station}
use Rattle.drv_arp.specs.declared.told.Told.{Told}
use Rattle.drv_arp.specs.Asks.{cfg_refusal, ask_of, request_of, told}
use Rattle.drv_arp.specs.Stations.{learned}

-- the children, tokens and messages; the station's Ethernet address and its addresses; the moment; and the cache, in which
-- entries may still be that have ended
pub record ArpState : Type 0 where
  pub drive : Drive ArpCfg Ask Arp
  pub mac : Mac
  pub stations : List Station
  pub moment : Tick
  pub entries : List Entry

abbrev pub started : ℕ → Mac → ArpState
started own mac = record { drive = start own; mac = mac; stations = []; moment = record { 0 = 0 }; entries = [] }

abbrev pub in_drive : ArpState → Drive ArpCfg Ask Arp → ArpState
in_drive s d = record { drive = d; mac = s.mac; stations = s.stations; moment = s.moment; entries = s.entries }

abbrev pub in_entries : ArpState → List Entry → ArpState
in_entries s es = record { drive = s.drive; mac = s.mac; stations = s.stations; moment = s.moment; entries = es }

abbrev pub in_stations : ArpState → List Station → ArpState
in_stations s ss = record { drive = s.drive; mac = s.mac; stations = ss; moment = s.moment; entries = s.entries }

-- these are the station's addresses from now on
abbrev pub stations_learned : ArpState → List Ip4 → ArpState
stations_learned s a = in_stations s (map (learned s.stations s.drive.family.next) a)

-- the entries that count: those that haven't ended
abbrev pub known : ArpState → List Entry
known s = after_time s.moment.0 s.entries

-- the Ethernet address of an address
abbrev pub known_mac : ArpState → ℕ → Option Mac
known_mac s ip = mac_of (known s) ip

-- why a child isn't configured: for its handle and state, and then for what it gets
abbrev pub new_cfg_refusal : Option ArpCfg → Option Refuse
new_cfg_refusal None = None
new_cfg_refusal (Some c) = cfg_refusal c

abbrev pub arp_configure_refusal : ArpState → ℕ → ℕ → Option ArpCfg → Option Refuse
arp_configure_refusal s key serial c = first_of (configure_refusal s.drive key serial c) (new_cfg_refusal c)

-- The cache's calls want a configured child.
abbrev pub mode_refusal : ArpState → ℕ → ℕ → Option Refuse
mode_refusal s key serial =
    first_of (handle_refusal s.drive.family key serial) (refuse_if (is_none (cfg_of s.drive key serial)) NotStarted)

abbrev pub find_refusal : ArpState → ℕ → ℕ → ℕ → Option Refuse
find_refusal s key serial ip = first_of (mode_refusal s key serial) (refuse_if (not (has (known s) ip)) NotFound)

abbrev pub arp_add_refusal : ArpState → ℕ → ℕ → ℕ → Bool → Option Refuse
arp_add_refusal s key serial ip over = first_of (mode_refusal s key serial) (add_refusal (known s) ip over)

abbrev pub arp_delete_refusal : ArpState → ℕ → ℕ → ℕ → Option Refuse
arp_delete_refusal s key serial ip = first_of (mode_refusal s key serial) (delete_refusal (known s) ip)

abbrev pub arp_flush_refusal : ArpState → ℕ → ℕ → Option Refuse
arp_flush_refusal s key serial = first_of (mode_refusal s key serial) (flush_refusal (known s))

abbrev pub deleted : ArpState → ℕ → ArpState
deleted s ip = in_entries s (without ip (known s))

abbrev pub flushed : ArpState → ArpState
flushed s = in_entries s (after_flush (known s))

-- the pending request with its answer, where its address is known
abbrev pub answer_of : List Entry → Pending Ask → Option Told
answer_of es p = option_map (λ (mac : Mac). record { ticket = p.ticket; ask = told mac p.work }) (mac_of es p.work.work.ip.0)

-- these requests end with their answers, one after another
abbrev pub settled : Tokens Ask → List Told → Tokens Ask
settled ts [] = ts
settled ts (t ∷ rest) = settled (completed_with ts t.ticket Success t.ask) rest

-- the pending requests whose address is known end with it, oldest first
abbrev pub answered : ArpState → ArpState
answered s =
    in_drive s (in_tokens s.drive (settled s.drive.tokens (filter_map (answer_of (known s)) s.drive.tokens.pending)))

-- an entry of a caller's, with the life that its child gives
abbrev pub entry_of : ArpState → ArpCfg → Ip4 → Mac → Bool → Entry
entry_of s c ip mac fixed = record { ip = ip; mac = mac; fixed = fixed; refreshed = s.moment; life = c.entry }

abbrev pub added_by : Option ArpCfg → ArpState → Ip4 → Mac → Bool → ArpState
added_by None s ip mac fixed = s
added_by (Some c) s ip mac fixed = answered (in_entries s (entered (known s) (entry_of s c ip mac fixed)))

abbrev pub added : ArpState → ℕ → ℕ → Ip4 → Mac → Bool → ArpState
added s key serial ip mac fixed = added_by (cfg_of s.drive key serial) s ip mac fixed

-- a token whose address is known is accepted, and ends with it
abbrev pub accepted_known : Drive ArpCfg Ask Arp → ChildId → Owner → Ask → Mac → Drive ArpCfg Ask Arp
accepted_known d child owner a mac =
    in_tokens d
    (completed_with (with_pending d.tokens child owner a) (record { 0 = d.tokens.next }) Success (told mac a))

-- one whose address isn't known is accepted, and a request goes to the layer below
abbrev pub accepted_unknown : Drive ArpCfg Ask Arp → ChildId → Owner → Ask → Mac → Drive ArpCfg Ask Arp
accepted_unknown d child owner a mac =
    in_outbox (in_tokens d (with_pending d.tokens child owner a)) (asked d.outbox (request_of mac a))

abbrev pub asked_by : Option Mac → ArpState → Ask → ℕ → Owner → ArpState
asked_by None s a serial owner = in_drive s (accepted_unknown s.drive (id_of serial) owner a s.mac)
asked_by (Some mac) s a serial owner = in_drive s (accepted_known s.drive (id_of serial) owner a mac)

abbrev pub asked_as : Option ArpCfg → ArpState → ℕ → Owner → ArpWork → ArpState
asked_as None s serial owner work = s
asked_as (Some c) s serial owner work = asked_by (known_mac s work.ip.0) s (ask_of s.moment c work) serial owner

abbrev pub arp_posted : ArpState → ℕ → ℕ → Owner → ArpWork → ArpState
arp_posted s key serial owner work = asked_as (cfg_of s.drive key serial) s serial owner work

-- an ended token with its work alone
abbrev pub done_of : Done Ask → Done ArpWork
done_of d = record { ticket = d.ticket; child = d.child; token = d.token; end = d.end; work = d.work.work }

abbrev pub raised_of : Raised Ask → Raised ArpWork
raised_of d = record { ticket = d.ticket; child = d.child; proto = d.proto; waits = d.waits; end = d.end; work = d.work.work }
