-- What a server's message says to a station (RFC 2131, section 3.1).
use Rattle.std.specs.Prelude.{ℕ, ◌==◌, ◌&&◌, Bool, false, List, take, codes, bytes_eq, Option, Some, None, option_map, if◌then◌else◌}
use Rattle.efi_base.specs.declared.plain.Ip4.{Ip4}
use Rattle.efi_base.specs.declared.plain.Mac.{Mac}
use Rattle.wire_dhcp.specs.declared.says.Offer.{Offer}
use Rattle.wire_dhcp.specs.declared.says.Reply.{Reply}
use Rattle.wire_dhcp.specs.declared.says.Reply.TheVariants as reply
use Rattle.wire_dhcp.specs.declared.says.Terms.{Terms}
use Rattle.wire_dhcp.specs.Leases.{four_of, terms_of}
use Rattle.wire_dhcp.specs.Message.{fixed_of, octet_of, option_of}

-- an HTTP offer: option 60 begins with `HTTPClient`
abbrev pub begins_as_http : Option (List ℕ) → Bool
begins_as_http None = false
begins_as_http (Some value) = bytes_eq (take 10 value) (codes "HTTPClient")

abbrev pub offer_by : List ℕ → Terms → Offer
offer_by octets t = record { ip = t.ip; server = t.server; http = begins_as_http (option_of 60 octets) }

-- what is offered, or given
abbrev pub offer_of : List ℕ → Option Offer
offer_of octets = option_map (offer_by octets) (terms_of octets)

-- the server that is named by four octets
abbrev pub server_of : List ℕ → Option Ip4
server_of octets = option_map (λ n. record { 0 = n }) (four_of (option_of 54 octets))

-- by the message's type: 2 is an offer, 5 an ACK, 6 a NAK (RFC 2132, section 9.6)
abbrev pub reply_by : ℕ → ℕ → Option Offer → Option Ip4 → Option Reply
reply_by kind xid offer server =
    if kind == 2 then option_map (reply.Offer xid) offer
    else if kind == 5 then option_map (reply.Ack xid) offer
    else if kind == 6 then option_map (reply.Nak xid) server
    else None

-- whether a server sent it for this station: its op is 2
abbrev pub is_for : List ℕ → List ℕ → Bool
is_for mac octets = (fixed_of octets).op == 2 && bytes_eq (fixed_of octets).mac.0 mac

-- what the message says to the station of this address
unfoldable pub reply_of : Mac → List ℕ → Option Reply
reply_of mac octets =
    if is_for mac.0 octets then reply_by (octet_of (option_of 53 octets)) (fixed_of octets).xid (offer_of octets) (server_of octets) else None
