-- Places of a stream as sequence numbers (RFC 9293, section 3.4).
use Rattle.std.specs.Prelude.{ℕ, ◌+◌, ◌-◌, ◌%◌, ◌^◌}

-- the number of a place: the first octet's is one past the SYN's
abbrev pub number_of : ℕ → ℕ → ℕ
number_of iss place = (iss + 1 + place) % 2 ^ 32

-- how far a number stands past another, modulo 2^32
abbrev pub distance : ℕ → ℕ → ℕ
distance from to = (to + 2 ^ 32 - from) % 2 ^ 32
