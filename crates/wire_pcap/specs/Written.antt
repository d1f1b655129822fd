-- What is written: captures that are little-endian, in microseconds.
use Rattle.std.specs.Prelude.{◌≡◌, ℕ, ◌*◌, ◌/◌, ◌%◌, ◌<◌, ◌≤◌, List, ◌++◌, length}
use Rattle.std.specs.List.{flat_map}
use Rattle.efi_base.specs.declared.plain.Record.{Record}
use Rattle.wire_pcap.specs.Grammar.{Little, Micros, number_text, Stored, IsStored, record_text, time_of}

-- the header: the magic number, version 2.4, zone and accuracy 0, a snapshot length of 262,144 octets, link type 1
abbrev pub header_text : List ℕ
header_text =
    number_text Little 4 0xA1B2C3D4 ++ (number_text Little 2 2 ++ (number_text Little 2 4 ++ (number_text Little 4 0
    ++ (number_text Little 4 0 ++ (number_text Little 4 262144 ++ number_text Little 4 1)))))

-- a record as it is written: its tick is its time in milliseconds since 0, and the whole frame was kept
abbrev pub stored_of : Record → Stored
stored_of r = record {
  secs = r.tick.0 / 1000;
  fraction = r.tick.0 % 1000 * 1000;
  wire_length = length r.frame;
  frame = r.frame;
}

-- the octets of a record
abbrev pub written_text : Record → List ℕ
written_text r = record_text Little (stored_of r)

-- the octets of a capture of these records
abbrev pub capture_text : List Record → List ℕ
capture_text records = header_text ++ flat_map written_text records

-- the seconds fit 32 bits, and the frame may be kept
pub record Fits (r : Record) : Type 0 where
  pub tick : r.tick.0 < 4294967296000
  pub frame : length r.frame ≤ 262144

-- a reader finds the record again: its octets are a record with this time in microseconds and this frame
pub record IsTold (r : Record) (stored : Stored) : Type 0 where
  pub is_stored : IsStored stored
  pub time : time_of Micros stored ≡ r.tick.0 * 1000
  pub same_frame : stored.frame ≡ r.frame
