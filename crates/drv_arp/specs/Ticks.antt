-- What ticks do: requests go again, and tokens end where no answer came.
use Rattle.std.specs.Prelude.{ℕ, List, [], ◌∷◌, filter_map, Option, Some, None, if◌then◌else◌}
use Rattle.efi_base.specs.declared.plain.Mac.{Mac}
use Rattle.efi_base.specs.declared.tokens.End.TheVariants.{NoMapping}
use Rattle.efi_book.specs.Books.{completed}
use Rattle.efi_book.specs.Cores.{Drive, in_tokens, in_outbox}
use Rattle.efi_book.specs.Outboxes.{asked}
use Rattle.efi_book.specs.declared.ends.Pending.{Pending}
use Rattle.efi_timer.specs.Ticking.{ticks}
use Rattle.wire_link.specs.declared.resolution.Arp.{Arp}
use Rattle.drv_arp.specs.declared.asks.ArpCfg.{ArpCfg}
use Rattle.drv_arp.specs.declared.asks.Ask.{Ask}
use Rattle.drv_arp.specs.declared.told.Told.{Told}
use Rattle.drv_arp.specs.Asks.{request_of, is_due, ends, least, next_of_ask}
use Rattle.drv_arp.specs.Arps.{ArpState}

-- the pending request, where something is due for it at a moment
abbrev pub due_of : ℕ → Pending Ask → Option Told
due_of m p = if is_due m p.work then Some (record { ticket = p.ticket; ask = p.work }) else None

-- it ends, or it goes again
abbrev pub due_done : ℕ → Mac → Drive ArpCfg Ask Arp → Told → Drive ArpCfg Ask Arp
due_done m mac d t =
    if ends m t.ask then in_tokens d (completed d.tokens t.ticket NoMapping)
    else in_outbox d (asked d.outbox (request_of mac t.ask))

abbrev pub all_done : ℕ → Mac → Drive ArpCfg Ask Arp → List Told → Drive ArpCfg Ask Arp
all_done m mac d [] = d
all_done m mac d (t ∷ ts) = all_done m mac (due_done m mac d t) ts

-- what is due at a moment is done, in the order of asking
abbrev pub acted : ℕ → ArpState → ArpState
acted m s = record {
  drive = all_done m s.mac s.drive (filter_map (due_of m) s.drive.tokens.pending);
  mac = s.mac;
  stations = s.stations;
  moment = record { 0 = m };
  entries = s.entries;
}

-- the same at another moment
abbrev pub at : ℕ → ArpState → ArpState
at m s = record { drive = s.drive; mac = s.mac; stations = s.stations; moment = record { 0 = m }; entries = s.entries }

abbrev pub moment_of : ArpState → ℕ
moment_of s = s.moment.0

-- so many ticks, one after another
abbrev pub ticked : ℕ → ArpState → ArpState
ticked n s = ticks moment_of acted n s

-- the least moment to come at which something is due
abbrev pub next_of_all : ℕ → List (Pending Ask) → Option ℕ
next_of_all moment [] = None
next_of_all moment (p ∷ ps) = least (next_of_ask moment p.work) (next_of_all moment ps)

abbrev pub next_of : ArpState → Option ℕ
next_of s = next_of_all s.moment.0 s.drive.tokens.pending
