-- Which Ethernet addresses are which (IEEE 802.3, clause 3.2.3): the lowest bit of the first octet marks a group.
use Rattle.std.specs.Prelude.{ℕ, ◌%◌, Bool, ◌&&◌, ◌==◌, not, List, replicate, slice_index, bytes_eq}

abbrev pub is_same : List ℕ → List ℕ → Bool
is_same a b = bytes_eq a b

-- the broadcast, ff:ff:ff:ff:ff:ff
abbrev pub is_everyone : List ℕ → Bool
is_everyone mac = bytes_eq mac (replicate 6 255)

-- a group that isn't everyone
abbrev pub is_multicast : List ℕ → Bool
is_multicast mac = slice_index mac 0 % 2 == 1 && not (is_everyone mac)
