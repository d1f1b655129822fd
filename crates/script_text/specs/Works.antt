-- The work of a token, by the protocol of its child.
use Rattle.std.specs.Prelude.{ℕ, Bool, false, ◌==◌, List, length, bytes_eq, codes, Option, Some, None, option_map, option_and_then, if◌then◌else◌}
use Rattle.std.specs.List.{list_all}
use Rattle.std.specs.Option.{option_or}
use Rattle.efi_base.specs.declared.plain.Ip4.{Ip4}
use Rattle.efi_base.specs.declared.tokens.Proto.{Proto}
use Rattle.efi_base.specs.declared.tokens.Proto.TheVariants as proto
use Rattle.session_text.specs.Image.{hex_of}
use Rattle.session_text.specs.Line.{is_visible}
use Rattle.script_text.specs.Words.{with, finished, taken, number_next, ip_next, mac_next, name_next}
use Rattle.script_text.specs.declared.works.Work.{Work}
use Rattle.script_text.specs.declared.works.Work.TheVariants as work

-- a value that ends the line
abbrev pub room_next : Option (List ℕ) → Option ℕ
room_next words = with (number_next 0 1073741825 words) (λ n. finished n.1 n.0)

abbrev pub last_ip : Option (List ℕ) → Option Ip4
last_ip words = with (ip_next words) (λ ip. finished ip.1 ip.0)

abbrev pub last_name : Option (List ℕ) → Option (List ℕ)
last_name words = with (name_next words) (λ name. finished name.1 name.0)

-- the works that need no memory, by their word and what stands behind it
abbrev pub receive_work : List ℕ → Option (List ℕ) → Option Work
receive_work key words = if bytes_eq key (codes "receive") then finished words work.Receive else None

abbrev pub arp_work : List ℕ → Option (List ℕ) → Option Work
arp_work key words = if bytes_eq key (codes "request") then option_map work.Request (last_ip words) else None

abbrev pub tcp_work : List ℕ → Option (List ℕ) → Option Work
tcp_work key words =
    if bytes_eq key (codes "connect") then finished words work.Connect
    else if bytes_eq key (codes "accept") then finished words work.Accept
    else if bytes_eq key (codes "close") then finished words work.Close
    else if bytes_eq key (codes "abort") then finished words work.Abort
    else if bytes_eq key (codes "receive") then option_map work.ReceiveInto (room_next words)
    else None

abbrev pub dhcp_work : List ℕ → Option (List ℕ) → Option Work
dhcp_work key words =
    if bytes_eq key (codes "start") then finished words work.Start
    else if bytes_eq key (codes "renew") then finished words work.Renew
    else if bytes_eq key (codes "release") then finished words work.Release
    else None

abbrev pub dns_work : List ℕ → Option (List ℕ) → Option Work
dns_work key words =
    if bytes_eq key (codes "resolve") then option_map work.Resolve (last_name words)
    else if bytes_eq key (codes "reverse") then option_map work.Reverse (last_ip words)
    else None

abbrev pub read_work : Option (List ℕ) → Option Work
read_work words = with (name_next words) (λ name. option_map (λ room. work.Read name.0 room) (room_next name.1))

abbrev pub file_work : List ℕ → Option (List ℕ) → Option Work
file_work key words =
    if bytes_eq key (codes "read") then read_work words
    else if bytes_eq key (codes "info") then option_map work.Info (last_name words)
    else None

abbrev pub http_work : List ℕ → Option (List ℕ) → Option Work
http_work key words = if bytes_eq key (codes "response") then option_map work.Response (room_next words) else None

abbrev pub boot_work : List ℕ → Option (List ℕ) → Option Work
boot_work key words = if bytes_eq key (codes "load") then option_map work.Load (room_next words) else None

abbrev pub plain_work : Proto → List ℕ → Option (List ℕ) → Option Work
plain_work proto.Mnp key words = receive_work key words
plain_work proto.Arp key words = arp_work key words
plain_work proto.Ip4 key words = receive_work key words
plain_work proto.Udp4 key words = receive_work key words
plain_work proto.Tcp4 key words = tcp_work key words
plain_work proto.Dhcp4 key words = dhcp_work key words
plain_work proto.Dns4 key words = dns_work key words
plain_work proto.Mtftp4 key words = file_work key words
plain_work proto.Http key words = http_work key words
plain_work proto.Boot key words = boot_work key words

-- octets, which end the line
abbrev pub last_octets : Option (List ℕ) → Option (List ℕ)
last_octets words = with (taken words) (λ w. with (hex_of w.0) (λ octets. finished w.1 octets))

-- `M N HEX`
abbrev pub send_frame : Option (List ℕ) → Option Work
send_frame words =
    with (mac_next words) (λ dest. with (number_next 0 65535 dest.1) (λ kind.
    option_map (λ octets. work.SendFrame dest.0 kind.0 octets) (last_octets kind.1)))

-- `A N HEX`: the number is a protocol or a port
abbrev pub send_packet : Option (List ℕ) → Option Work
send_packet words =
    with (ip_next words) (λ dest. with (number_next 0 255 dest.1) (λ number.
    option_map (λ octets. work.SendPacket dest.0 number.0 octets) (last_octets number.1)))

abbrev pub send_datagram : Option (List ℕ) → Option Work
send_datagram words =
    with (ip_next words) (λ dest. with (number_next 0 65535 dest.1) (λ port.
    option_map (λ octets. work.SendDatagram dest.0 port.0 octets) (last_octets port.1)))

abbrev pub send_octets : Option (List ℕ) → Option Work
send_octets words = option_map work.SendOctets (last_octets words)

abbrev pub write_file : Option (List ℕ) → Option Work
write_file words = with (name_next words) (λ name. option_map (λ octets. work.Write name.0 octets) (last_octets name.1))

-- one or more octets that are seen
abbrev pub is_url : List ℕ → Bool
is_url text = if length text == 0 then false else list_all is_visible text

abbrev pub get_url : Option (List ℕ) → Option Work
get_url words = with (taken words) (λ w. if is_url w.0 then finished w.1 (work.Get w.0) else None)

-- the works whose octets are kept
abbrev pub kept_work : Proto → List ℕ → Option (List ℕ) → Option Work
kept_work proto.Mnp key words = if bytes_eq key (codes "send") then send_frame words else None
kept_work proto.Ip4 key words = if bytes_eq key (codes "send") then send_packet words else None
kept_work proto.Udp4 key words = if bytes_eq key (codes "send") then send_datagram words else None
kept_work proto.Tcp4 key words = if bytes_eq key (codes "send") then send_octets words else None
kept_work proto.Mtftp4 key words = if bytes_eq key (codes "write") then write_file words else None
kept_work proto.Http key words = if bytes_eq key (codes "get") then get_url words else None
kept_work _ key words = None

-- the words of a protocol's works are different, so that at most one of them fits
abbrev pub work_of : Proto → Option (List ℕ) → Option Work
work_of proto words = with (taken words) (λ w. option_or (plain_work proto w.0 w.1) (kept_work proto w.0 w.1))
