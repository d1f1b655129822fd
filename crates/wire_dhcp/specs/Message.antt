-- DHCP messages (RFC 2131, section 2): 236 octets of fixed fields, a cookie of four, and options. Numbers have their highest
-- octet first.
use Rattle.std.specs.Prelude.{ℕ, zero, suc, ◌==◌, ◌&&◌, ◌||◌, not, nat_le, Bool, List, [], ◌∷◌, ◌++◌, length, take, drop, slice_index, Option, Some, None, if◌then◌else◌}
use Rattle.byteorder.specs.Endian.{big_number}
use Rattle.wire_dhcp.specs.declared.message.DhcpFixed.{DhcpFixed}
use Rattle.wire_dhcp.specs.Options.{Item, items_in, is_ended, value_of, count_of}

-- the fields in which options stand, by their places
abbrev pub options_field : List ℕ → List ℕ
options_field octets = drop 240 octets

abbrev pub sname_field : List ℕ → List ℕ
sname_field octets = take 64 (drop 44 octets)

abbrev pub file_field : List ℕ → List ℕ
file_field octets = take 128 (drop 108 octets)

-- the number of a value of one octet, and 0 for every other value
abbrev pub octet_of : Option (List ℕ) → ℕ
octet_of None = 0
octet_of (Some []) = 0
octet_of (Some (octet ∷ [])) = octet
octet_of (Some (octet ∷ next ∷ octets)) = 0

-- what option 52 says: 1 that `file` holds options, 2 that `sname` does, 3 that both do (RFC 2132, section 9.3)
abbrev pub overload_of : List ℕ → ℕ
overload_of octets = octet_of (value_of 52 (items_in (options_field octets)))

abbrev pub has_file_options : List ℕ → Bool
has_file_options octets = overload_of octets == 1 || overload_of octets == 3

abbrev pub has_sname_options : List ℕ → Bool
has_sname_options octets = overload_of octets == 2 || overload_of octets == 3

-- the octets of the two fields that are options
unfoldable pub file_options : List ℕ → List ℕ
file_options octets = if has_file_options octets then file_field octets else []

unfoldable pub sname_options : List ℕ → List ℕ
sname_options octets = if has_sname_options octets then sname_field octets else []

-- all options: those behind the cookie, then those of `file`, then those of `sname` (RFC 2131, section 4.1)
abbrev pub items_of : List ℕ → List Item
items_of octets = items_in (options_field octets) ++ items_in (file_options octets) ++ items_in (sname_options octets)

-- what the message says under this code
abbrev pub option_of : ℕ → List ℕ → Option (List ℕ)
option_of code octets = value_of code (items_of octets)

-- each field that holds options has its 255
abbrev pub are_ended : List ℕ → Bool
are_ended octets =
    is_ended (options_field octets)
    && ((not (has_file_options octets) || is_ended (file_field octets)) && (not (has_sname_options octets) || is_ended (sname_field octets)))

-- Ethernet addresses of six octets, and the cookie 99.130.83.99 (RFC 2131, section 3)
abbrev pub has_front : List ℕ → Bool
has_front octets =
    nat_le 240 (length octets) && (slice_index octets 1 == 1 && (slice_index octets 2 == 6 && big_number 4 (drop 236 octets) == 1669485411))

-- a message that can be read: one option 53, its type, is there
unfoldable pub is_readable : List ℕ → Bool
is_readable octets = has_front octets && (are_ended octets && count_of 53 (items_of octets) == 1)

-- the message that the octets are
abbrev pub message_of : List ℕ → Option (List ℕ)
message_of octets = if is_readable octets then Some octets else None

-- the octets in front of the first zero
abbrev pub until_zero : List ℕ → List ℕ
until_zero [] = []
until_zero (zero ∷ octets) = []
until_zero (suc c ∷ octets) = suc c ∷ until_zero octets

-- the fixed fields at their places (RFC 2131, figure 1)
abbrev pub fixed_of : List ℕ → DhcpFixed
fixed_of octets = record {
  op = slice_index octets 0;
  xid = big_number 4 (drop 4 octets);
  flags = big_number 2 (drop 10 octets);
  ciaddr = record { 0 = big_number 4 (drop 12 octets) };
  yiaddr = record { 0 = big_number 4 (drop 16 octets) };
  siaddr = record { 0 = big_number 4 (drop 20 octets) };
  mac = record { 0 = take 6 (drop 28 octets) };
  file = until_zero (file_field octets);
}
