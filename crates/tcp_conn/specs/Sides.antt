-- What two sides agree on: segments' sizes (RFC 9293, section 3.7.1) and windows (RFC 7323, section 2).
use Rattle.std.specs.Prelude.{ℕ, ◌*◌, ◌/◌, ◌^◌, min, max, Option, Some, None, unwrap_or}

-- the window, in octets: without scaling, and with the shift 4 that this side's SYN carries
abbrev pub cap_of : Option ℕ → ℕ
cap_of None = 65535
cap_of (Some shift) = 1048560

-- a peer that tells no size takes 536 octets, and one that tells fewer than 64 takes 64
abbrev pub most_of : ℕ → Option ℕ → ℕ
most_of limit mss = min limit (max (unwrap_or mss 536) 64)

-- the octets of a heard window: a shift above 14 counts as 14
abbrev pub scaled : Option ℕ → ℕ → ℕ
scaled None window = window
scaled (Some shift) window = window * 2 ^ min shift 14

-- the field that tells so many octets
abbrev pub window_field : Option ℕ → ℕ → ℕ
window_field None octets = octets
window_field (Some shift) octets = octets / 16

-- a SYN that answers one carries the shift where that does
abbrev pub answered_shift : Option ℕ → Option ℕ
answered_shift None = None
answered_shift (Some shift) = Some 4
