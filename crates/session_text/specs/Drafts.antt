-- What the lines so far say, and what they say by default.
use Rattle.std.specs.Prelude.{ℕ, false, [], ◌∷◌, None}
use Rattle.std.specs.Option.{unwrap_or}
use Rattle.efi_base.specs.declared.plain.Ip4.{Ip4}
use Rattle.efi_base.specs.declared.plain.Mac.{Mac}
use Rattle.efi_base.specs.declared.plain.Peer.{Peer}
use Rattle.session_text.specs.Sites.{new_site}
use Rattle.session_text.specs.declared.draft.Draft.{Draft}
use Rattle.session_text.specs.declared.lan.Terms.{Terms}

-- no line was read
abbrev pub start : Draft
start = record {
  version = None;
  ended = false;
  station = record { mac = None; seed = None; buffer = None; last = None; choose = None; progress = None; blksize = None };
  lan = record { mac = None; ip = None; first_sequence = None; lease = None; router = None; dns = None; offers = None };
  second = record { scale = None; bootfile = false; stations = None };
  uri = None;
  names = record { addresses = []; aliases = [] };
  rules = [];
  octets = 0;
  at = None;
  site = new_site;
  sites = [];
}

-- 02:00:00:00:00:01, and 02:00:00:00:00:02
abbrev pub station_mac : Draft → Mac
station_mac d = unwrap_or d.station.mac (record { 0 = 2 ∷ 0 ∷ 0 ∷ 0 ∷ 0 ∷ 1 ∷ [] })

abbrev pub server_mac : Draft → Mac
server_mac d = unwrap_or d.lan.mac (record { 0 = 2 ∷ 0 ∷ 0 ∷ 0 ∷ 0 ∷ 2 ∷ [] })

-- 192.168.7.1
abbrev pub server_ip : Draft → Ip4
server_ip d = unwrap_or d.lan.ip (record { 0 = 3232237313 })

-- 192.168.7.50, 255.255.255.0, for a day
abbrev pub lease_of : Draft → Terms
lease_of d = unwrap_or d.lan.lease (record { ip = record { 0 = 3232237362 }; mask = record { 0 = 4294967040 }; secs = 86400 })

abbrev pub buffer_of : Draft → ℕ
buffer_of d = unwrap_or d.station.buffer 16777216

-- where the site stands whose lines are read: the first stands where the server does
abbrev pub here : Draft → Peer
here d = unwrap_or d.at (record { addr = server_ip d; port = 80 })
