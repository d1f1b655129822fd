-- Leases (RFC 2131, section 3.1; RFC 2132). Times are in seconds.
use Rattle.std.specs.Prelude.{ℕ, ◌*◌, ◌/◌, ◌^◌, ◌==◌, ◌&&◌, nat_le, nat_lt, List, [], ◌∷◌, zero, suc, length, take, map, filter, Option, Some, None, option_map, if◌then◌else◌}
use Rattle.byteorder.specs.Endian.{big_number}
use Rattle.efi_base.specs.Addresses.{is_mask, is_unicast}
use Rattle.efi_base.specs.declared.plain.Ip4.{Ip4}
use Rattle.wire_dhcp.specs.declared.lease.Lease.{Lease}
use Rattle.wire_dhcp.specs.declared.says.Terms.{Terms}
use Rattle.wire_dhcp.specs.Message.{file_field, fixed_of, has_file_options, option_of, until_zero}

-- the number of a value of four octets
abbrev pub four_of : Option (List ℕ) → Option ℕ
four_of None = None
four_of (Some value) = if length value == 4 then Some (big_number 4 value) else None

-- the first address of a value of at least four octets
abbrev pub first_address : Option (List ℕ) → Option Ip4
first_address None = None
first_address (Some value) = if nat_le 4 (length value) then Some (record { 0 = big_number 4 value }) else None

-- an address, its server and for how long it may be used: the server's option 54 and the seconds of option 51
abbrev pub terms_from : Ip4 → Option ℕ → Option ℕ → Option Terms
terms_from ip None secs = None
terms_from ip (Some server) None = None
terms_from ip (Some server) (Some secs) =
    if is_unicast ip.0 && (is_unicast server && nat_lt 0 secs) then Some (record { ip = ip; server = record { 0 = server }; secs = secs })
    else None

-- what an offer and an ACK must say
unfoldable pub terms_of : List ℕ → Option Terms
terms_of octets = terms_from (fixed_of octets).yiaddr (four_of (option_of 54 octets)) (four_of (option_of 51 octets))

-- the mask of an address's class (RFC 791, section 3.2)
abbrev pub class_mask : ℕ → ℕ
class_mask ip = if nat_lt ip (128 * 2 ^ 24) then 255 * 2 ^ 24 else if nat_lt ip (192 * 2 ^ 24) then 65535 * 2 ^ 16 else 16777215 * 2 ^ 8

-- option 1 where it is a mask, else the one of the class
abbrev pub mask_from : ℕ → Option ℕ → ℕ
mask_from ip None = class_mask ip
mask_from ip (Some mask) = if is_mask mask then mask else class_mask ip

-- what is said, or else this
abbrev pub said_or : Option ℕ → ℕ → ℕ
said_or None other = other
said_or (Some said) other = said

-- the addresses in the octets, four by four
abbrev pub addresses_in : List ℕ → List ℕ
addresses_in (a ∷ b ∷ c ∷ d ∷ octets) = big_number 4 (a ∷ b ∷ c ∷ d ∷ []) ∷ addresses_in octets
addresses_in octets = []

-- those that are unicast
abbrev pub unicast_in : List ℕ → List Ip4
unicast_in ips = map (λ ip. record { 0 = ip }) (filter is_unicast ips)

-- the first three unicast addresses
abbrev pub servers_of : Option (List ℕ) → List Ip4
servers_of None = []
servers_of (Some value) = take 3 (unicast_in (addresses_in value))

-- the octets without the zeros at their end
abbrev pub behind_zero : List ℕ → List ℕ
behind_zero [] = []
behind_zero (octet ∷ octets) = 0 ∷ octet ∷ octets

abbrev pub without_zeros : List ℕ → List ℕ
without_zeros [] = []
without_zeros (zero ∷ octets) = behind_zero (without_zeros octets)
without_zeros (suc c ∷ octets) = suc c ∷ without_zeros octets

-- the file that is named, empty where the field holds options
abbrev pub file_of : List ℕ → List ℕ
file_of octets = if has_file_options octets then [] else until_zero (file_field octets)

-- option 67, else a file that is named
abbrev pub uri_from : Option (List ℕ) → List ℕ → Option (List ℕ)
uri_from (Some value) file = Some (without_zeros value)
uri_from None [] = None
uri_from None (octet ∷ file) = Some (octet ∷ file)

-- the lease on these terms; it is to be renewed at half of it, and rebound at seven eighths, where options 58 and 59 don't
-- say otherwise (RFC 2131, section 4.4.5)
abbrev pub lease_by : List ℕ → Terms → Lease
lease_by octets t = record {
  ip = t.ip;
  mask = mask_from t.ip.0 (four_of (option_of 1 octets));
  server = t.server;
  secs = t.secs;
  t1 = said_or (four_of (option_of 58 octets)) (t.secs / 2);
  t2 = said_or (four_of (option_of 59 octets)) (t.secs * 7 / 8);
  router = first_address (option_of 3 octets);
  dns = servers_of (option_of 6 octets);
  uri = uri_from (option_of 67 octets) (file_of octets);
  next = (fixed_of octets).siaddr;
  file = file_of octets;
}

-- the lease that the message gives, where it says what an ACK must say
abbrev pub lease_of : List ℕ → Option Lease
lease_of octets = option_map (lease_by octets) (terms_of octets)
