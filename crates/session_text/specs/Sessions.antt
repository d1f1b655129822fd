-- What a whole document says: what wasn't said has its default.
use Rattle.std.specs.Prelude.{ℕ, true, List, [], ◌∷◌, ◌++◌, codes, Option, Result, Ok}
use Rattle.std.specs.Option.{unwrap_or}
use Rattle.efi_base.specs.declared.plain.Ip4.{Ip4}
use Rattle.efi_base.specs.declared.plain.Mac.{Mac}
use Rattle.text_base.specs.Addresses.{dotted}
use Rattle.text_base.specs.Lines.{text_of, on_ok}
use Rattle.session_text.specs.Documents.{session_next, is_ended}
use Rattle.session_text.specs.Drafts.{start, station_mac, server_mac, server_ip, lease_of, buffer_of, here}
use Rattle.session_text.specs.Sites.{site_of}
use Rattle.session_text.specs.declared.draft.Draft.{Draft}
use Rattle.session_text.specs.declared.lan.LanSaid.{LanSaid}
use Rattle.session_text.specs.declared.lan.Offer.{Offer}
use Rattle.session_text.specs.declared.lan.Offer.TheVariants as offer
use Rattle.session_text.specs.declared.lan.Terms.{Terms}
use Rattle.session_text.specs.declared.line.Version.TheVariants.{One}
use Rattle.session_text.specs.declared.second.SecondSaid.{SecondSaid}
use Rattle.session_text.specs.declared.session.Lan.{Lan}
use Rattle.session_text.specs.declared.session.Session.{Session}
use Rattle.session_text.specs.declared.session.Station.{Station}
use Rattle.session_text.specs.declared.station.Choose.TheVariants as choose
use Rattle.session_text.specs.declared.station.Progress.TheVariants as progress

abbrev pub station_of : Draft → Station
station_of d = record {
  mac = station_mac d;
  seed = unwrap_or d.station.seed 1;
  buffer = buffer_of d;
  last = unwrap_or d.station.last 3600000;
  choose = unwrap_or d.station.choose choose.Http;
  progress = unwrap_or d.station.progress progress.Go;
  blksize = unwrap_or d.station.blksize 0;
  count = unwrap_or d.second.stations 1;
}

-- the image at the server's address
abbrev pub uri_of : Option (List ℕ) → Ip4 → List ℕ
uri_of said ip = unwrap_or said (codes "http://" ++ (dotted ip.0 ++ codes "/image"))

abbrev pub one_offer : List Offer
one_offer = offer.Http ∷ []

abbrev pub lan_of : Mac → Ip4 → Terms → List ℕ → LanSaid → SecondSaid → Lan
lan_of mac ip lease uri said second = record {
  mac = mac;
  ip = ip;
  first_sequence = unwrap_or said.first_sequence 1000;
  lease = lease;
  router = said.router;
  dns = said.dns;
  uri = uri;
  offers = unwrap_or said.offers one_offer;
  scale = unwrap_or second.scale true;
  bootfile = second.bootfile;
}

-- the site whose lines were read last stands behind the others
unfoldable pub session_from : Draft → Session
session_from d = record {
  version = unwrap_or d.version One;
  station = station_of d;
  lan = lan_of (server_mac d) (server_ip d) (lease_of d) (uri_of d.uri (server_ip d)) d.lan d.second;
  names = d.names;
  schedule = d.rules;
  sites = d.sites ++ (site_of (here d) d.site ∷ []);
}

-- what a document says, or the first octet of its first bad line
abbrev pub session_of : List ℕ → Result Session ℕ
session_of text = on_ok (text_of session_next is_ended start text) (λ d. Ok (session_from d))
