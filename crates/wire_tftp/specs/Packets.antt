-- TFTP packets (RFC 1350, section 5; RFC 2347). Numbers have two octets, the highest first.
use Rattle.std.specs.Prelude.{ℕ, ◌&&◌, ◌==◌, Bool, nat_le, List, [], ◌∷◌, length, drop, take, codes, Option, Some, None, if◌then◌else◌}
use Rattle.std.specs.Option.{option_map, option_and_then}
use Rattle.std.specs.Str.{str_eq_ignore_ascii_case}
use Rattle.byteorder.specs.Endian.{big_number}
use Rattle.wire_tftp.specs.declared.options.Opts.{Opts}
use Rattle.wire_tftp.specs.declared.packet.Ask.{Ask}
use Rattle.wire_tftp.specs.Options.{opts_of, opts_in, items_of}
use Rattle.wire_tftp.specs.Texts.{texts_of}

-- a packet without where it lies in memory
pub data Message : Type 0 where
  read_request : Ask → Message
  write_request : Ask → Message
  block : ℕ → List ℕ → Message
  acknowledgment : ℕ → Message
  error : ℕ → List ℕ → Message
  option_acknowledgment : Opts → Message

-- what is asked for by a name, a mode and options
abbrev pub ask_from : List (List ℕ) → Option Ask
ask_from [] = None
ask_from (name ∷ []) = None
ask_from (name ∷ mode ∷ texts) =
    if str_eq_ignore_ascii_case mode (codes "octet") && nat_le (length name) 255
    then option_map (λ opts. record { name = name; opts = opts }) (option_and_then opts_in (items_of texts)) else None

-- what is asked for in the octets behind the opcode
abbrev pub ask_of : List ℕ → Option Ask
ask_of octets = option_and_then ask_from (texts_of octets)

-- the one text of these
abbrev pub only_text : List (List ℕ) → Option (List ℕ)
only_text [] = None
only_text (text ∷ []) = Some text
only_text (text ∷ next ∷ texts) = None

-- a number, and the octets behind it
abbrev pub block_of : List ℕ → Option Message
block_of octets = if nat_le 2 (length octets) then Some (block (big_number 2 octets) (drop 2 octets)) else None

-- a number alone
abbrev pub acknowledgment_of : List ℕ → Option Message
acknowledgment_of octets = if length octets == 2 then Some (acknowledgment (big_number 2 octets)) else None

-- a code, and one text
abbrev pub error_of : List ℕ → Option Message
error_of octets =
    if nat_le 2 (length octets) then option_map (λ text. error (big_number 2 octets) text) (option_and_then only_text (texts_of (drop 2 octets)))
    else None

-- the packet of this opcode
abbrev pub body_of : ℕ → List ℕ → Option Message
body_of opcode octets =
    if opcode == 1 then option_map read_request (ask_of octets)
    else if opcode == 2 then option_map write_request (ask_of octets)
    else if opcode == 3 then block_of octets
    else if opcode == 4 then acknowledgment_of octets
    else if opcode == 5 then error_of octets
    else if opcode == 6 then option_map option_acknowledgment (opts_of octets)
    else None

-- the packet that fills the octets
unfoldable pub packet_of : List ℕ → Option Message
packet_of octets = if nat_le 2 (length octets) then body_of (big_number 2 octets) (drop 2 octets) else None
