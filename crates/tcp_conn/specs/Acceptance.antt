-- A heard segment's flags, and which segments are acceptable (RFC 9293, section 3.10.7.4, first check).
use Rattle.std.specs.Prelude.{ℕ, ◌+◌, ◌-◌, ◌%◌, ◌^◌, ◌==◌, ◌&&◌, ◌||◌, not, Bool, nat_lt, length, bit_and, if◌then◌else◌}
use Rattle.wire_l4.specs.Segment.{Segment}
use Rattle.tcp_recv.specs.Receiver.{Receiver, next_number, untaken}
use Rattle.tcp_send.specs.Numbers.{number_of, distance}
use Rattle.tcp_send.specs.Sender.{Sender, next_place}

abbrev pub has : Segment → ℕ → Bool
has s flag = not (bit_and s.flags flag == 0)

abbrev pub has_fin : Segment → Bool
has_fin s = has s 1

abbrev pub has_syn : Segment → Bool
has_syn s = has s 2

abbrev pub has_rst : Segment → Bool
has_rst s = has s 4

abbrev pub has_ack : Segment → Bool
has_ack s = has s 16

-- data or FIN
abbrev pub has_text : Segment → Bool
has_text s = nat_lt 0 (length s.payload) || has_fin s

-- the numbers that data and FIN take (SEG.LEN)
abbrev pub len_of : Segment → ℕ
len_of s = length s.payload + (if has_fin s then 1 else 0)

-- RCV.WND
abbrev pub free_of : Receiver → ℕ
free_of r = r.cap - length (untaken r)

-- RCV.NXT ≤ SEG.SEQ < RCV.NXT + RCV.WND, or with window 0 SEG.SEQ = RCV.NXT
abbrev pub is_in_window : Receiver → ℕ → Bool
is_in_window r seq = if free_of r == 0 then seq == next_number r else nat_lt (distance (next_number r) seq) (free_of r)

-- without length its number is in the window; with length its first or its last number is in a window above 0
abbrev pub is_acceptable : Receiver → Segment → Bool
is_acceptable r s =
    if len_of s == 0 then is_in_window r s.seq
    else nat_lt 0 (free_of r) && (is_in_window r s.seq || is_in_window r ((s.seq + len_of s - 1) % 2 ^ 32))

-- it acknowledges this side's SYN, where no data was sent
abbrev pub acks_syn : ℕ → Segment → Bool
acks_syn iss s = has_ack s && s.ack == number_of iss 0

-- it acknowledges what wasn't sent: its acknowledgment stands past SND.NXT
abbrev pub acks_unsent : Sender → Segment → Bool
acks_unsent s heard = not (nat_lt (distance heard.ack (number_of s.iss (next_place s))) (2 ^ 31))
