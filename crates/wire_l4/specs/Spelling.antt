-- How a TCP segment is written (RFC 9293, section 3.1; window scale: RFC 7323, section 2.2).
use Rattle.std.specs.Prelude.{ℕ, ◌+◌, ◌*◌, ◌/◌, ◌^◌, ◌<◌, ◌≤◌, IfSome, List, [], ◌∷◌, ◌++◌, length, Option, Some, None}
use Rattle.byteorder.specs.Endian.{big_bytes}
use Rattle.efi_base.specs.Checksum.{AreOctets}
use Rattle.wire_l4.specs.Pseudo.{message_sum}
use Rattle.wire_l4.specs.Segment.{Segment}

-- a segment that can be sent: its numbers fit their fields
pub record IsSegment (s : Segment) : Type 0 where
  pub from : s.sport < 2 ^ 16
  pub to : s.dport < 2 ^ 16
  pub place : s.seq < 2 ^ 32
  pub next : s.ack < 2 ^ 32
  pub marks : s.flags < 2 ^ 8
  pub room : s.window < 2 ^ 16
  pub largest : IfSome s.mss (λ mss. mss < 2 ^ 16)
  pub scale : IfSome s.shift (λ shift. shift < 2 ^ 8)
  pub octets : AreOctets s.payload
  pub bound : length s.payload ≤ 65487

-- the largest segment, where it is told
abbrev pub mss_option : Option ℕ → List ℕ
mss_option None = []
mss_option (Some mss) = 2 ∷ 4 ∷ big_bytes 2 mss

-- the shift, where it is told, behind an octet of padding, so that each option fills a word of four octets
abbrev pub shift_option : Option ℕ → List ℕ
shift_option None = []
shift_option (Some shift) = 1 ∷ 3 ∷ 3 ∷ shift ∷ []

-- the options of a segment
abbrev pub options_text : Option ℕ → Option ℕ → List ℕ
options_text mss shift = mss_option mss ++ shift_option shift

-- the first 20 octets of a header of so many octets and with this checksum: its length counts words of four octets,
-- and the urgent pointer is 0
abbrev pub tcp_front : Segment → ℕ → ℕ → List ℕ
tcp_front s len sum =
    big_bytes 2 s.sport ++ (big_bytes 2 s.dport ++ (big_bytes 4 s.seq ++ (big_bytes 4 s.ack
    ++ (len / 4 * 16 ∷ s.flags ∷ big_bytes 2 s.window ++ (big_bytes 2 sum ++ big_bytes 2 0)))))

-- the header of a segment with this checksum
unfoldable pub tcp_header : Segment → ℕ → List ℕ
tcp_header s sum = let options = options_text s.mss s.shift in tcp_front s (20 + length options) sum ++ options

-- the octets of a segment between these addresses
unfoldable pub segment_text : ℕ → ℕ → Segment → List ℕ
segment_text src dest s = tcp_header s (message_sum src dest 6 (tcp_header s 0 ++ s.payload)) ++ s.payload
