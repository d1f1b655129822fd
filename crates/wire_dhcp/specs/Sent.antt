-- The messages that a station sends (RFC 2131, section 4.4).
use Rattle.std.specs.Prelude.{ℕ, ◌-◌, List, [], ◌∷◌, ◌++◌, length, replicate, codes}
use Rattle.byteorder.specs.Endian.{big_bytes}
use Rattle.efi_base.specs.declared.plain.Ip4.{Ip4}
use Rattle.efi_base.specs.declared.plain.Mac.{Mac}
use Rattle.wire_dhcp.specs.declared.message.DhcpFixed.{DhcpFixed}
use Rattle.wire_dhcp.specs.Options.{Item}
use Rattle.wire_dhcp.specs.Spelling.{dhcp_text}

-- a message of 300 octets at least, filled up with zeros (RFC 1542, section 2.1)
abbrev pub padded : List ℕ → List ℕ
padded text = text ++ replicate (300 - length text) 0

-- the fields of a station that has this address, or 0.0.0.0: answers are asked for by broadcast
abbrev pub station_fields : Mac → ℕ → Ip4 → DhcpFixed
station_fields mac xid ip = record {
  op = 1;
  xid = xid;
  flags = 32768;
  ciaddr = ip;
  yiaddr = record { 0 = 0 };
  siaddr = record { 0 = 0 };
  mac = mac;
  file = [];
}

abbrev pub option : ℕ → List ℕ → Item
option code value = record { code = code; value = value }

-- what is asked for, how long a message may be, and that the station boots over HTTP (RFC 2132, sections 9.8, 9.10 and 9.13;
-- RFC 4578, section 2.1)
abbrev pub asked_for : List Item
asked_for =
    option 55 (1 ∷ 3 ∷ 6 ∷ 51 ∷ 54 ∷ 58 ∷ 59 ∷ 60 ∷ 67 ∷ []) ∷ option 57 (5 ∷ 220 ∷ []) ∷ option 60 (codes "HTTPClient:Arch:00016:UNDI:003001")
    ∷ option 93 (0 ∷ 16 ∷ []) ∷ []

abbrev pub discover_options : List Item
discover_options = option 53 (1 ∷ []) ∷ asked_for

abbrev pub request_options : Ip4 → Ip4 → List Item
request_options ip server = option 53 (3 ∷ []) ∷ option 50 (big_bytes 4 ip.0) ∷ option 54 (big_bytes 4 server.0) ∷ asked_for

abbrev pub renewal_options : List Item
renewal_options = option 53 (3 ∷ []) ∷ asked_for

abbrev pub release_options : Ip4 → List Item
release_options server = option 53 (7 ∷ []) ∷ option 54 (big_bytes 4 server.0) ∷ []

abbrev pub nowhere : Ip4
nowhere = record { 0 = 0 }

unfoldable pub discover_text : Mac → ℕ → List ℕ
discover_text mac xid = padded (dhcp_text (station_fields mac xid nowhere) discover_options)

-- the address that is asked for, and the server that offered it
unfoldable pub request_text : Mac → ℕ → Ip4 → Ip4 → List ℕ
request_text mac xid ip server = padded (dhcp_text (station_fields mac xid nowhere) (request_options ip server))

-- the address that is to be kept
unfoldable pub renewal_text : Mac → ℕ → Ip4 → List ℕ
renewal_text mac xid ip = padded (dhcp_text (station_fields mac xid ip) renewal_options)

-- the address that is given back
unfoldable pub release_text : Mac → ℕ → Ip4 → Ip4 → List ℕ
release_text mac xid ip server = padded (dhcp_text (station_fields mac xid ip) (release_options server))
