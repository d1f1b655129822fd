-- What a TCP segment asks or says, by its flags (RFC 9293, section 3.1): FIN 1, SYN 2, RST 4, ACK 16.
use Rattle.std.specs.Prelude.{ℕ, ◌+◌, ◌%◌, ◌^◌, ◌&&◌, ◌||◌, ◌==◌, Bool, nat_lt, length, bit_and}
use Rattle.wire_l4.specs.Segment.{Segment}
use Rattle.tcp_recv.specs.Stream.{Cut}

-- SYN and not ACK: it asks for a connection
abbrev pub opens : Segment → Bool
opens s = bit_and s.flags 18 == 2

-- SYN and ACK, and not RST, and it acknowledges this number: it accepts the connection
abbrev pub accepts : ℕ → Segment → Bool
accepts seq s = bit_and s.flags 22 == 18 && s.ack == (seq + 1) % 2 ^ 32

abbrev pub resets : Segment → Bool
resets s = bit_and s.flags 4 == 4

abbrev pub has_fin : Segment → Bool
has_fin s = bit_and s.flags 1 == 1

-- a cut of the peer's stream: ACK, neither SYN nor RST, and data or FIN
abbrev pub is_cut : Segment → Bool
is_cut s = bit_and s.flags 22 == 16 && (nat_lt 0 (length s.payload) || has_fin s)

-- the cut that a segment stands for
abbrev pub cut_of : Segment → Cut
cut_of s = record { seq = s.seq; bytes = s.payload; fin = has_fin s }
