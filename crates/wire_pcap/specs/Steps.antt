-- How a reader goes on, a record at a time.
use Rattle.std.specs.Prelude.{ℕ, ◌-◌, ◌/◌, max, List, [], ◌∷◌, take, drop, Some, None, unwrap_or}
use Rattle.byteorder.specs.Endian.{big_number, little_number}
use Rattle.efi_base.specs.declared.plain.Record.{Record}
use Rattle.wire_pcap.specs.Grammar.{Order, Big, Little, Resolution, per_tick, Stored, time_of}
use Rattle.wire_pcap.specs.declared.clock.Clock.{Clock}

-- the number in the first n octets, each that isn't there being 0
abbrev pub number_in : Order → ℕ → List ℕ → ℕ
number_in Big n bytes = big_number n bytes
number_in Little n bytes = little_number n bytes

-- how many octets the record at the front says were kept, or the least that it may say
abbrev pub kept_at : Order → List ℕ → ℕ
kept_at order bytes = number_in order 4 (drop 8 bytes)

-- the record at the front of the octets, where it is whole
abbrev pub record_at : Order → List ℕ → Stored
record_at order bytes = record {
  secs = number_in order 4 bytes;
  fraction = number_in order 4 (drop 4 bytes);
  wire_length = number_in order 4 (drop 12 bytes);
  frame = take (kept_at order bytes) (drop 16 bytes);
}

-- before the first record
abbrev pub new_clock : Clock
new_clock = record { start = None; tick = 0 }

-- the clock after a record of this time: the first record starts it
abbrev pub clock_at : Resolution → Clock → ℕ → Clock
clock_at resolution clock time = record {
  start = Some (unwrap_or clock.start time);
  tick = max clock.tick ((time - unwrap_or clock.start time) / per_tick resolution);
}

-- the clock after a record
abbrev pub clock_after : Resolution → Clock → Stored → Clock
clock_after resolution clock r = clock_at resolution clock (time_of resolution r)

-- the clock after records
abbrev pub clock_after_all : Resolution → Clock → List Stored → Clock
clock_after_all resolution clock [] = clock
clock_after_all resolution clock (r ∷ rs) = clock_after_all resolution (clock_after resolution clock r) rs

-- the frames of records with their moments, from a clock on
abbrev pub made_from : Resolution → Clock → List Stored → List Record
made_from resolution clock [] = []
made_from resolution clock (r ∷ rs) =
    let after = clock_after resolution clock r in
    record { tick = record { 0 = after.tick }; frame = r.frame } ∷ made_from resolution after rs
