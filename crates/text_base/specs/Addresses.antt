-- Addresses as texts: IPv4 as four numbers joined by dots, Ethernet as six octets of two digits joined by colons.
use Rattle.std.specs.Prelude.{ℕ, ◌+◌, ◌*◌, ◌/◌, ◌%◌, Bool, ◌&&◌, ◌==◌, List, [], ◌∷◌, ◌++◌, length, drop, map, slice_index, decimal, codes, Option, Some, None, option_map, option_and_then, if◌then◌else◌}
use Rattle.std.specs.List.{flat_map, list_all}
use Rattle.efi_base.specs.declared.plain.Ip4.{Ip4}
use Rattle.efi_base.specs.declared.plain.Mac.{Mac}
use Rattle.text_base.specs.Numbers.{number_of}
use Rattle.text_base.specs.Words.{front_of, rest_of}
use Rattle.text_base.specs.Hex.{is_hex, hex_value, octet_text}

-- the number in front of the first dot, and what stands behind the dot
abbrev pub octet_in_front : List ℕ → Option (ℕ × List ℕ)
octet_in_front text =
    option_and_then (λ rest. option_map (λ n. (n, rest)) (number_of 255 (front_of 46 text))) (rest_of 46 text)

-- the address that four numbers write
abbrev pub address_of_four : ℕ → ℕ → ℕ → ℕ → Ip4
address_of_four a b c d = record { 0 = ((a * 256 + b) * 256 + c) * 256 + d }

-- four numbers of an octet each, joined by dots
abbrev pub ip_of : List ℕ → Option Ip4
ip_of text =
    option_and_then (λ a. option_and_then (λ b. option_and_then (λ c. option_map (λ d. address_of_four a.0 b.0 c.0 d)
    (number_of 255 c.1)) (octet_in_front b.1)) (octet_in_front a.1)) (octet_in_front text)

-- the same, written: the highest octet first
abbrev pub dotted : ℕ → List ℕ
dotted n =
    decimal (n / 16777216) ++ (codes "." ++ (decimal (n / 65536 % 256) ++ (codes "."
    ++ (decimal (n / 256 % 256) ++ (codes "." ++ decimal (n % 256))))))

-- the octet that two digits at this place write
abbrev pub octet_at : List ℕ → ℕ → ℕ
octet_at text i = 16 * hex_value (slice_index text i) + hex_value (slice_index text (i + 1))

abbrev pub is_octet_at : List ℕ → ℕ → Bool
is_octet_at text i = is_hex (slice_index text i) && is_hex (slice_index text (i + 1))

abbrev pub is_colon_at : List ℕ → ℕ → Bool
is_colon_at text i = slice_index text i == 58

-- where the octets and the colons stand
abbrev pub octet_places : List ℕ
octet_places = 0 ∷ 3 ∷ 6 ∷ 9 ∷ 12 ∷ 15 ∷ []

abbrev pub colon_places : List ℕ
colon_places = 2 ∷ 5 ∷ 8 ∷ 11 ∷ 14 ∷ []

-- six octets of two digits, joined by colons
abbrev pub is_mac_text : List ℕ → Bool
is_mac_text text =
    length text == 17 && (list_all (is_octet_at text) octet_places && list_all (is_colon_at text) colon_places)

-- the address that the text writes
abbrev pub mac_of : List ℕ → Option Mac
mac_of text = if is_mac_text text then Some (record { 0 = map (octet_at text) octet_places }) else None

-- the same, written: each octet but the first with a colon in front
abbrev pub later_octets : List ℕ → List ℕ
later_octets octets = flat_map (λ o. 58 ∷ octet_text o) octets

abbrev pub mac_text : Mac → List ℕ
mac_text mac = octet_text (slice_index mac.0 0) ++ later_octets (drop 1 mac.0)
