-- Names in a message (RFC 1035, sections 3.1 and 4.1.4): labels with their lengths in front, up to a zero or a pointer.
use Rattle.std.specs.Prelude.{ℕ, zero, suc, ◌+◌, ◌%◌, ◌==◌, nat_le, nat_lt, List, [], ◌∷◌, length, drop, Option, Some, None, if◌then◌else◌}
use Rattle.std.specs.Option.{option_map, option_and_then}
use Rattle.byteorder.specs.Endian.{big_number}

-- what the octets spell, a dot in front of each label, where so many octets of a label are still to come and `led` tells
-- what stands where a pointer leads
unfoldable pub spelled : (ℕ → Option (List ℕ)) → ℕ → List ℕ → Option (List ℕ)
spelled led left [] = None
spelled led (suc left) (c ∷ octets) = option_map (λ text. c ∷ text) (spelled led left octets)
spelled led zero (c ∷ octets) =
    if c == 0 then Some []
    else if nat_lt c 64 then option_map (λ text. 46 ∷ text) (spelled led c octets)
    else if nat_lt c 192 then None
    else if nat_lt 0 (length octets) then led (big_number 2 (c ∷ octets) % 16384)
    else None

-- what stands at this place, if it is before the limit: its own pointer leads before itself
unfoldable pub earlier : List ℕ → ℕ → ℕ → Option (List ℕ)
earlier msg zero place = None
earlier msg (suc limit) place = if place == limit then spelled (earlier msg limit) zero (drop limit msg) else earlier msg limit place

-- a name has at most 255 octets where it is spelled out: each label with its length, and the zero
abbrev pub kept : List ℕ → Option (List ℕ)
kept text = if nat_le (length text) 254 then Some (drop 1 text) else None

-- the name at this place, its labels joined by dots; its pointer leads before it
unfoldable pub name_at : List ℕ → ℕ → Option (List ℕ)
name_at msg place = option_and_then kept (spelled (earlier msg place) zero (drop place msg))

-- how many octets of the message are the name, up to its zero or through its first pointer
unfoldable pub spelled_size : ℕ → List ℕ → ℕ
spelled_size left [] = 0
spelled_size (suc left) (c ∷ octets) = suc (spelled_size left octets)
spelled_size zero (c ∷ octets) = if c == 0 then 1 else if nat_lt c 64 then suc (spelled_size c octets) else 2

-- the place behind the name
abbrev pub behind_name : List ℕ → ℕ → ℕ
behind_name msg place = place + spelled_size zero (drop place msg)

-- the name, and the place behind it
abbrev pub name_read : List ℕ → ℕ → Option (List ℕ × ℕ)
name_read msg place = option_map (λ name. (name, behind_name msg place)) (name_at msg place)
