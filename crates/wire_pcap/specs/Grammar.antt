-- Classic pcap captures of Ethernet frames (the file format of libpcap, "pcap-savefile"), in either byte order, with
-- times in microseconds or nanoseconds.
use Rattle.std.specs.Prelude.{◌≡◌, ℕ, ◌+◌, ◌-◌, ◌*◌, ◌/◌, ◌^◌, ◌<◌, ◌≤◌, max, List, [], ◌∷◌, ◌++◌, length}
use Rattle.std.specs.List.{flat_map, AllByRecursion}
use Rattle.byteorder.specs.Endian.{big_bytes, little_bytes}
use Rattle.efi_base.specs.declared.plain.Record.{Record}
pub use Rattle.wire_pcap.specs.declared.form.Order.{Order}
pub use Rattle.wire_pcap.specs.declared.form.Order.TheVariants.{Big, Little}
pub use Rattle.wire_pcap.specs.declared.form.Resolution.{Resolution}
pub use Rattle.wire_pcap.specs.declared.form.Resolution.TheVariants.{Micros, Nanos}
pub use Rattle.wire_pcap.specs.declared.form.Form.{Form}

-- the octets of a number of n octets
abbrev pub number_text : Order → ℕ → ℕ → List ℕ
number_text Big n x = big_bytes n x
number_text Little n x = little_bytes n x

-- the number with which a capture begins
abbrev pub magic : Resolution → ℕ
magic Micros = 0xA1B2C3D4
magic Nanos = 0xA1B23C4D

-- how often the fraction fits into a second, and into a tick of a millisecond
abbrev pub per_second : Resolution → ℕ
per_second Micros = 1000000
per_second Nanos = 1000000000

abbrev pub per_tick : Resolution → ℕ
per_tick Micros = 1000
per_tick Nanos = 1000000

-- a capture begins with the magic number and version 2.4
abbrev pub front_of : Form → List ℕ
front_of form = number_text form.order 4 (magic form.resolution) ++ (number_text form.order 2 2 ++ number_text form.order 2 4)

-- link type 1: Ethernet
abbrev pub link_of : Form → List ℕ
link_of form = number_text form.order 4 1

-- the 24 octets of the header: its front, twelve free octets (zone, accuracy and snapshot length), and the link type
pub record IsHeader (form : Form) (header : List ℕ) : Type 0 where
  pub free : List ℕ
  pub twelve : length free ≡ 12
  pub text : header ≡ front_of form ++ (free ++ link_of form)

-- a record as it stands in the file: its time, the frame's length on the wire, and the octets that were kept of it
pub record Stored : Type 0 where
  pub secs : ℕ
  pub fraction : ℕ
  pub wire_length : ℕ
  pub frame : List ℕ

-- each number has 32 bits, and at most 262,144 octets were kept
pub record IsStored (r : Stored) : Type 0 where
  pub secs : r.secs < 2 ^ 32
  pub fraction : r.fraction < 2 ^ 32
  pub wire_length : r.wire_length < 2 ^ 32
  pub frame : length r.frame ≤ 262144

-- a record's octets: seconds, fraction, kept length, length on the wire, the kept octets
abbrev pub record_text : Order → Stored → List ℕ
record_text order r =
    number_text order 4 r.secs ++ (number_text order 4 r.fraction ++ (number_text order 4 (length r.frame)
    ++ (number_text order 4 r.wire_length ++ r.frame)))

-- the octets are a header, these records, and then rest
pub record Splits (form : Form) (bytes : List ℕ) (records : List Stored) (rest : List ℕ) : Type 0 where
  pub header : List ℕ
  pub is_header : IsHeader form header
  pub each : AllByRecursion IsStored records
  pub text : bytes ≡ header ++ (flat_map (record_text form.order) records ++ rest)

-- the octets are a capture of these records
abbrev pub IsCapture : Form → List ℕ → List Stored → Type 0
IsCapture form bytes records = Splits form bytes records []

-- a record's time, in units of the fraction
abbrev pub time_of : Resolution → Stored → ℕ
time_of resolution r = r.secs * per_second resolution + r.fraction

-- the frames with their moments, from a first time on. A moment is the time since the first record in whole
-- milliseconds, or the moment before it where that is greater.
abbrev pub records_from : Resolution → ℕ → ℕ → List Stored → List Record
records_from resolution start before [] = []
records_from resolution start before (r ∷ rs) =
    let tick = max before ((time_of resolution r - start) / per_tick resolution) in
    record { tick = record { 0 = tick }; frame = r.frame } ∷ records_from resolution start tick rs

-- the frames of a capture with their moments
abbrev pub records_of : Resolution → List Stored → List Record
records_of resolution [] = []
records_of resolution (r ∷ rs) = records_from resolution (time_of resolution r) 0 (r ∷ rs)

-- the form of captures that are written: little-endian, in microseconds
abbrev pub little_micros : Form
little_micros = record { order = Little; resolution = Micros }
