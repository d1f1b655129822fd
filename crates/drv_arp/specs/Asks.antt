-- What a child asks (RFC 826), and the moments at which a request goes again and ends.
use Rattle.std.specs.Prelude.{◌≡◌, ℕ, ◌+◌, ◌-◌, ◌*◌, ◌≤◌, Bool, false, ◌==◌, ◌||◌, not, nat_lt, min, zero, suc, List, [], ◌∷◌, Option, Some, None, if◌then◌else◌}
use Rattle.efi_base.specs.Addresses.{is_unicast}
use Rattle.efi_base.specs.Refusals.{first_of, refuse_if}
use Rattle.efi_base.specs.declared.plain.Mac.{Mac}
use Rattle.efi_base.specs.declared.plain.Tick.{Tick}
use Rattle.efi_base.specs.declared.refuse.Refuse.{Refuse}
use Rattle.efi_base.specs.declared.refuse.Refuse.TheVariants.{BadConfig}
use Rattle.efi_base.specs.declared.refuse.Field.TheVariants.{Address, Tries, Gap}
use Rattle.wire_link.specs.declared.resolution.Arp.{Arp}
use Rattle.drv_arp.specs.declared.asks.ArpCfg.{ArpCfg}
use Rattle.drv_arp.specs.declared.asks.ArpWork.{ArpWork}
use Rattle.drv_arp.specs.declared.asks.Ask.{Ask}

-- a child has a unicast address, 1 to 10 tries, and ticks between them
abbrev pub cfg_refusal : ArpCfg → Option Refuse
cfg_refusal c =
    first_of
    (refuse_if (not (is_unicast c.ip.0)) (BadConfig Address))
    (first_of
    (refuse_if (nat_lt c.tries 1 || nat_lt 10 c.tries) (BadConfig Tries))
    (refuse_if (c.gap == 0) (BadConfig Gap)))

-- what is asked at a moment: all tries and the gaps after them end it
abbrev pub ask_of : Tick → ArpCfg → ArpWork → Ask
ask_of now c work = record {
  work = work;
  from = c.ip;
  until = record { 0 = now.0 + c.tries * c.gap };
  tries = c.tries;
  gap = c.gap;
}

-- the packet that asks: the target's Ethernet address isn't known, and is zeros
abbrev pub request_of : Mac → Ask → Arp
request_of mac a = record {
  op = 1;
  sha = mac;
  spa = a.from;
  tha = record { 0 = 0 ∷ 0 ∷ 0 ∷ 0 ∷ 0 ∷ 0 ∷ [] };
  tpa = a.work.ip;
}

-- what was asked, with its answer
abbrev pub told : Mac → Ask → Ask
told mac a = record {
  work = record { ip = a.work.ip; mac = Some mac };
  from = a.from;
  until = a.until;
  tries = a.tries;
  gap = a.gap;
}

-- so many moments, each a gap before the one named before it
abbrev pub moments : ℕ → ℕ → ℕ → List ℕ
moments last gap zero = []
moments last gap (suc n) = last ∷ moments (last - gap) gap n

-- the moments at which something is due for a request, the last one first: at the last it ends, at the others it goes again
abbrev pub table : Ask → List ℕ
table a = moments a.until.0 a.gap a.tries

-- a moment is some gaps after another, at least one and at most so many
abbrev pub IsGapAfter : ℕ → ℕ → ℕ → ℕ → Type 0
IsGapAfter first gap tries m = (k : ℕ) × (1 ≤ k) × (k ≤ tries) × (m ≡ first + k * gap)

abbrev pub is_in : ℕ → List ℕ → Bool
is_in m [] = false
is_in m (d ∷ ds) = d == m || is_in m ds

abbrev pub is_due : ℕ → Ask → Bool
is_due m a = is_in m (table a)

abbrev pub ends : ℕ → Ask → Bool
ends m a = a.until.0 == m

abbrev pub least : Option ℕ → Option ℕ → Option ℕ
least None b = b
least (Some a) None = Some a
least (Some a) (Some b) = Some (min a b)

abbrev pub later_than : ℕ → ℕ → Option ℕ
later_than moment d = if nat_lt moment d then Some d else None

-- the least of these moments that comes after one
abbrev pub next_in : ℕ → List ℕ → Option ℕ
next_in moment [] = None
next_in moment (d ∷ ds) = least (later_than moment d) (next_in moment ds)

abbrev pub next_of_ask : ℕ → Ask → Option ℕ
next_of_ask moment a = next_in moment (table a)
