-- The messages by which a server offers and gives a lease (RFC 2131, section 4.3.1).
use Rattle.std.specs.Prelude.{ℕ, List, [], ◌∷◌, ◌++◌, codes, Option, Some, None}
use Rattle.byteorder.specs.Endian.{big_bytes}
use Rattle.efi_base.specs.declared.plain.Ip4.{Ip4}
use Rattle.wire_dhcp.specs.declared.granting.Grant.{Grant}
use Rattle.wire_dhcp.specs.declared.message.DhcpFixed.{DhcpFixed}
use Rattle.wire_dhcp.specs.Options.{Item}
use Rattle.wire_dhcp.specs.Sent.{nowhere, option}
use Rattle.wire_dhcp.specs.Spelling.{dhcp_text}

-- the fields of an answer to a message: its transaction, flags and station, and the address
abbrev pub answer_fields : DhcpFixed → Ip4 → DhcpFixed
answer_fields asked ip = record {
  op = 2;
  xid = asked.xid;
  flags = asked.flags;
  ciaddr = nowhere;
  yiaddr = ip;
  siaddr = nowhere;
  mac = asked.mac;
  file = [];
}

-- addresses one behind the other
abbrev pub addresses_text : List Ip4 → List ℕ
addresses_text [] = []
addresses_text (ip ∷ ips) = big_bytes 4 ip.0 ++ addresses_text ips

abbrev pub router_text : Option Ip4 → List ℕ
router_text None = []
router_text (Some ip) = big_bytes 4 ip.0

-- an option that is there where its value isn't empty
abbrev pub said : ℕ → List ℕ → List Item
said code [] = []
said code (octet ∷ octets) = option code (octet ∷ octets) ∷ []

-- a URI, where there is one, of HTTP Boot
abbrev pub boot_options : List ℕ → List Item
boot_options [] = []
boot_options (octet ∷ octets) = option 60 (codes "HTTPClient") ∷ option 67 (octet ∷ octets) ∷ []

-- the type, the server, the seconds and the mask; then router, DNS servers and URI where they are told
abbrev pub options_with : ℕ → ℕ → ℕ → ℕ → List ℕ → List ℕ → List ℕ → List Item
options_with kind server secs mask router dns uri =
    option 53 (kind ∷ []) ∷ option 54 (big_bytes 4 server) ∷ option 51 (big_bytes 4 secs) ∷ option 1 (big_bytes 4 mask)
    ∷ (said 3 router ++ (said 6 dns ++ boot_options uri))

abbrev pub grant_options : ℕ → Grant → List Item
grant_options kind g = options_with kind g.server.0 g.secs g.mask (router_text g.router) (addresses_text g.dns.now) g.uri.now

-- the answer of this type
unfoldable pub grant_text : ℕ → DhcpFixed → Grant → List ℕ
grant_text kind asked g = dhcp_text (answer_fields asked g.ip) (grant_options kind g)

-- an OFFER and an ACK (RFC 2132, section 9.6)
abbrev pub offer_text : DhcpFixed → Grant → List ℕ
offer_text asked g = grant_text 2 asked g

abbrev pub ack_text : DhcpFixed → Grant → List ℕ
ack_text asked g = grant_text 5 asked g
