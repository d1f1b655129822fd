-- Which addresses and masks are which (RFC 1122, section 3.2.1.3; RFC 4632, section 3.1).
use Rattle.std.specs.Prelude.{ℕ, ◌-◌, ◌*◌, ◌/◌, ◌^◌, Bool, ◌&&◌, ◌==◌, not, nat_lt, count_ones}

-- a unicast address: neither 0.0.0.0 nor in 224.0.0.0/3
abbrev pub is_unicast : ℕ → Bool
is_unicast ip = not (ip == 0) && nat_lt ip (7 * 2 ^ 29)

-- the limited broadcast, 255.255.255.255
abbrev pub is_broadcast : ℕ → Bool
is_broadcast ip = ip == 2 ^ 32 - 1

-- the mask of so many ones, with zeros behind them
abbrev pub prefix_mask : ℕ → ℕ
prefix_mask n = 2 ^ 32 - 2 ^ 32 / 2 ^ n

-- the mask is ones and then zeros: it is the one that has its ones in front
abbrev pub is_mask : ℕ → Bool
is_mask mask = mask == prefix_mask (count_ones mask)
