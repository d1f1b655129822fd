-- The octets of a packet, and the packets that can be sent.
use Rattle.std.specs.Prelude.{ℕ, ◌<◌, ◌≤◌, ◌^◌, ◌&&◌, Bool, true, not, List, [], ◌∷◌, ◌++◌, length, codes, decimal, Option, Some, None, IfSome, ⊤}
use Rattle.byteorder.specs.Endian.{big_bytes}
use Rattle.wire_tftp.specs.declared.options.Opts.{Opts}
use Rattle.wire_tftp.specs.declared.packet.Ask.{Ask}
use Rattle.wire_tftp.specs.Packets.{Message, read_request, write_request, block, acknowledgment, error, option_acknowledgment}
use Rattle.wire_tftp.specs.Texts.{is_text, ended}

-- an option with a number, where there is one
abbrev pub number_option : List ℕ → Option ℕ → List ℕ
number_option name None = []
number_option name (Some n) = ended name ++ ended (decimal n)

-- blksize and then tsize
abbrev pub opts_text : Opts → List ℕ
opts_text o = number_option (codes "blksize") o.blksize ++ number_option (codes "tsize") o.tsize

-- the octets behind the name of a request
abbrev pub ask_tail : Opts → List ℕ
ask_tail o = (0 ∷ ended (codes "octet")) ++ opts_text o

unfoldable pub packet_text : Message → List ℕ
packet_text (read_request ask) = (big_bytes 2 1 ++ ask.name) ++ ask_tail ask.opts
packet_text (write_request ask) = (big_bytes 2 2 ++ ask.name) ++ ask_tail ask.opts
packet_text (block number octets) = (big_bytes 2 3 ++ big_bytes 2 number) ++ octets
packet_text (acknowledgment number) = big_bytes 2 4 ++ big_bytes 2 number
packet_text (error code text) = ((big_bytes 2 5 ++ big_bytes 2 code) ++ text) ++ (0 ∷ [])
packet_text (option_acknowledgment opts) = big_bytes 2 6 ++ opts_text opts

-- one that can be sent: its texts hold no zero, and its options are those that are read
abbrev pub is_sendable : Message → Bool
is_sendable (read_request ask) = is_text ask.name && not ask.opts.other
is_sendable (write_request ask) = is_text ask.name && not ask.opts.other
is_sendable (block number octets) = true
is_sendable (acknowledgment number) = true
is_sendable (error code text) = is_text text
is_sendable (option_acknowledgment opts) = not opts.other

-- the numbers of options fit 64 bits
pub record AreOpts (o : Opts) : Type 0 where
  pub size : IfSome o.blksize (λ n. n < 2 ^ 64)
  pub total : IfSome o.tsize (λ n. n < 2 ^ 64)

-- a name of at most 255 octets, as names are kept
abbrev pub IsKept : Message → Type 0
IsKept (read_request ask) = length ask.name ≤ 255
IsKept (write_request ask) = length ask.name ≤ 255
IsKept (block number octets) = ⊤
IsKept (acknowledgment number) = ⊤
IsKept (error code text) = ⊤
IsKept (option_acknowledgment opts) = ⊤

-- the numbers of a packet fit their fields
abbrev pub Fits : Message → Type 0
Fits (read_request ask) = AreOpts ask.opts
Fits (write_request ask) = AreOpts ask.opts
Fits (block number octets) = number < 2 ^ 16
Fits (acknowledgment number) = number < 2 ^ 16
Fits (error code text) = code < 2 ^ 16
Fits (option_acknowledgment opts) = AreOpts opts
