-- What a child is configured with, by its protocol.
use Rattle.std.specs.Prelude.{ℕ, Bool, true, false, List, bytes_eq, codes, Option, Some, None, option_map, option_and_then, if◌then◌else◌}
use Rattle.efi_base.specs.declared.plain.Addr.{Addr}
use Rattle.efi_base.specs.declared.plain.Ip4.{Ip4}
use Rattle.efi_base.specs.declared.plain.Peer.{Peer}
use Rattle.efi_base.specs.declared.tokens.Proto.{Proto}
use Rattle.efi_base.specs.declared.tokens.Proto.TheVariants as proto
use Rattle.text_base.specs.Addresses.{ip_of}
use Rattle.session_text.specs.Words.{few_words}
use Rattle.script_text.specs.Words.{with, finished, behind, flag, number_next, ip_next}
use Rattle.script_text.specs.declared.settings.Settings.{Settings}
use Rattle.script_text.specs.declared.settings.Settings.TheVariants as settings
use Rattle.script_text.specs.declared.settings.IpSettings.{IpSettings}
use Rattle.script_text.specs.declared.settings.MnpSettings.{MnpSettings}
use Rattle.script_text.specs.declared.settings.ArpSettings.{ArpSettings}
use Rattle.script_text.specs.declared.settings.UdpSettings.{UdpSettings}
use Rattle.script_text.specs.declared.settings.TcpSettings.{TcpSettings}
use Rattle.script_text.specs.declared.settings.TftpSettings.{TftpSettings}

-- the word that names a protocol
abbrev pub proto_word : Proto → List ℕ
proto_word proto.Mnp = codes "mnp"
proto_word proto.Arp = codes "arp"
proto_word proto.Ip4 = codes "ip4"
proto_word proto.Udp4 = codes "udp4"
proto_word proto.Tcp4 = codes "tcp4"
proto_word proto.Dhcp4 = codes "dhcp4"
proto_word proto.Dns4 = codes "dns4"
proto_word proto.Mtftp4 = codes "mtftp4"
proto_word proto.Http = codes "http"
proto_word proto.Boot = codes "boot"

-- a value behind a word that names it
abbrev pub keyed_number : List ℕ → ℕ → ℕ → Option (List ℕ) → Option (ℕ × Option (List ℕ))
keyed_number key least most words = with (behind key words) (λ w. number_next least most w)

abbrev pub keyed_ip : List ℕ → Option (List ℕ) → Option (Ip4 × Option (List ℕ))
keyed_ip key words = with (behind key words) (λ w. ip_next w)

-- an address and its mask
abbrev pub addr_next : Option (List ℕ) → Option (Addr × Option (List ℕ))
addr_next words =
    with (ip_next words) (λ ip. with (ip_next ip.1) (λ mask. Some (record { ip = ip.0; mask = mask.0.0 }, mask.1)))

-- an address and a port
abbrev pub peer_next : Option (List ℕ) → Option (Peer × Option (List ℕ))
peer_next words =
    with (ip_next words) (λ ip. with (number_next 0 65535 ip.1) (λ port. Some (record { addr = ip.0; port = port.0 }, port.1)))

-- a value that may be absent, with the word that names it
abbrev pub maybe : {A : Type 0} → (Option (List ℕ) → Option (A × Option (List ℕ))) → Option (Option (List ℕ)) → Option (List ℕ) → Option (Option A × Option (List ℕ))
maybe read None words = Some (None, words)
maybe read (Some left) words = with (read left) (λ a. Some (Some a.0, a.1))

abbrev pub at_maybe : Option (List ℕ) → Option (Option Addr × Option (List ℕ))
at_maybe words = maybe addr_next (behind (codes "at") words) words

abbrev pub peer_maybe : List ℕ → Option (List ℕ) → Option (Option Peer × Option (List ℕ))
peer_maybe key words = maybe peer_next (behind key words) words

-- the protocol that a word names
abbrev pub proto_of : List ℕ → Option Proto
proto_of word =
    if bytes_eq word (codes "mnp") then Some proto.Mnp
    else if bytes_eq word (codes "arp") then Some proto.Arp
    else if bytes_eq word (codes "ip4") then Some proto.Ip4
    else if bytes_eq word (codes "udp4") then Some proto.Udp4
    else if bytes_eq word (codes "tcp4") then Some proto.Tcp4
    else if bytes_eq word (codes "dhcp4") then Some proto.Dhcp4
    else if bytes_eq word (codes "dns4") then Some proto.Dns4
    else if bytes_eq word (codes "mtftp4") then Some proto.Mtftp4
    else if bytes_eq word (codes "http") then Some proto.Http
    else if bytes_eq word (codes "boot") then Some proto.Boot
    else None

-- `type N [unicast] [multicast] [broadcast] [promiscuous]`
abbrev pub mnp_flags : ℕ → Option (List ℕ) → Option MnpSettings
mnp_flags kind words =
    let u : Bool × Option (List ℕ) = flag (behind (codes "unicast") words) words in
    let m : Bool × Option (List ℕ) = flag (behind (codes "multicast") u.1) u.1 in
    let b : Bool × Option (List ℕ) = flag (behind (codes "broadcast") m.1) m.1 in
    let p : Bool × Option (List ℕ) = flag (behind (codes "promiscuous") b.1) b.1 in
    finished p.1 (record { kind = kind; unicast = u.0; multicast = m.0; broadcast = b.0; promiscuous = p.0 })

abbrev pub mnp_settings : Option (List ℕ) → Option MnpSettings
mnp_settings words = with (keyed_number (codes "type") 0 65535 words) (λ kind. mnp_flags kind.0 kind.1)

-- `ip A entry N tries N gap N`
abbrev pub arp_settings : Option (List ℕ) → Option ArpSettings
arp_settings words =
    with (keyed_ip (codes "ip") words) (λ ip.
    with (keyed_number (codes "entry") 0 4294967295 ip.1) (λ entry.
    with (keyed_number (codes "tries") 1 10 entry.1) (λ tries.
    with (keyed_number (codes "gap") 1 4294967295 tries.1) (λ gap.
    finished gap.1 (record { ip = ip.0; entry = entry.0; tries = tries.0; gap = gap.0 })))))

-- `proto N [at A A]`, or `any [at A A]`
abbrev pub ip_at : Option ℕ → Option (List ℕ) → Option IpSettings
ip_at number words = with (at_maybe words) (λ at. finished at.1 (record { proto = number; at = at.0 }))

abbrev pub ip_from : Option (Option (List ℕ)) → Option (List ℕ) → Option IpSettings
ip_from None words = with (keyed_number (codes "proto") 0 255 words) (λ number. ip_at (Some number.0) number.1)
ip_from (Some left) words = ip_at None left

abbrev pub ip_settings : Option (List ℕ) → Option IpSettings
ip_settings words = ip_from (behind (codes "any") words) words

-- `port N [share] [at A A] [peer A N] [broadcast] [timeout N]`
abbrev pub timeout_maybe : Option (List ℕ) → Option (Option ℕ × Option (List ℕ))
timeout_maybe words = maybe (λ left. number_next 0 4294967295 left) (behind (codes "timeout") words) words

abbrev pub udp_settings : Option (List ℕ) → Option UdpSettings
udp_settings words =
    with (keyed_number (codes "port") 0 65535 words) (λ port.
    let s : Bool × Option (List ℕ) = flag (behind (codes "share") port.1) port.1 in
    with (at_maybe s.1) (λ at.
    with (peer_maybe (codes "peer") at.1) (λ peer.
    let b : Bool × Option (List ℕ) = flag (behind (codes "broadcast") peer.1) peer.1 in
    with (timeout_maybe b.1) (λ t.
    finished t.1 (record { port = port.0; share = s.0; at = at.0; peer = peer.0; broadcast = b.0; timeout = t.0 })))))

-- `port N [at A A] [to A N]`
abbrev pub tcp_settings : Option (List ℕ) → Option TcpSettings
tcp_settings words =
    with (keyed_number (codes "port") 0 65535 words) (λ port.
    with (at_maybe port.1) (λ at.
    with (peer_maybe (codes "to") at.1) (λ to.
    finished to.1 (record { port = port.0; at = at.0; to = to.0 }))))

-- `server A [A] [A]`
abbrev pub dns_settings : Option (List ℕ) → Option (List Ip4)
dns_settings words = with (behind (codes "server") words) (λ left. with left (λ text. few_words ip_of 3 text))

-- `server A blksize N`
abbrev pub tftp_settings : Option (List ℕ) → Option TftpSettings
tftp_settings words =
    with (keyed_ip (codes "server") words) (λ server.
    with (keyed_number (codes "blksize") 0 65535 server.1) (λ blksize.
    finished blksize.1 (record { server = server.0; blksize = blksize.0 })))

-- what stands behind the protocol's word
abbrev pub settings_behind : Proto → Option (List ℕ) → Option Settings
settings_behind proto.Mnp words = option_map settings.Mnp (mnp_settings words)
settings_behind proto.Arp words = option_map settings.Arp (arp_settings words)
settings_behind proto.Ip4 words = option_map settings.Ip4 (ip_settings words)
settings_behind proto.Udp4 words = option_map settings.Udp4 (udp_settings words)
settings_behind proto.Tcp4 words = option_map settings.Tcp4 (tcp_settings words)
settings_behind proto.Dhcp4 words = finished words settings.Dhcp4
settings_behind proto.Dns4 words = option_map settings.Dns4 (dns_settings words)
settings_behind proto.Mtftp4 words = option_map settings.Mtftp4 (tftp_settings words)
settings_behind proto.Http words = finished words settings.Http
settings_behind proto.Boot words = finished words settings.Boot

-- a child is configured by the word of its own protocol
abbrev pub settings_of : Proto → Option (List ℕ) → Option Settings
settings_of proto words = with (behind (proto_word proto) words) (λ left. settings_behind proto left)
