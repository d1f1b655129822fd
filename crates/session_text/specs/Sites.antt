-- A site of the server: where it stands, and what it serves.
use Rattle.std.specs.Prelude.{ℕ, Bool, ◌&&◌, ◌==◌, List, [], None}
use Rattle.std.specs.List.{list_any}
use Rattle.std.specs.Option.{unwrap_or}
use Rattle.efi_base.specs.declared.plain.Peer.{Peer}
use Rattle.session_text.specs.declared.served.Framing.TheVariants as framing
use Rattle.session_text.specs.declared.served.Finish.TheVariants as finish
use Rattle.session_text.specs.declared.served.SiteSaid.{SiteSaid}
use Rattle.session_text.specs.declared.site.Site.{Site}

-- nothing was said of a site
abbrev pub new_site : SiteSaid
new_site = record { mss = None; status = None; interim = None; framing = None; finish = None; headers = []; image = [] }

-- what wasn't said of a site has its default
abbrev pub site_of : Peer → SiteSaid → Site
site_of at said = record {
  at = at;
  mss = unwrap_or said.mss 1460;
  status = unwrap_or said.status 200;
  interim = unwrap_or said.interim 0;
  framing = unwrap_or said.framing framing.Length;
  finish = unwrap_or said.finish finish.Fin;
  headers = said.headers;
  image = said.image;
}

-- one address and port
abbrev pub same_peer : Peer → Peer → Bool
same_peer first second = (first.addr.0 == second.addr.0) && (first.port == second.port)

abbrev pub has_peer : List Site → Peer → Bool
has_peer sites at = list_any (λ site. same_peer site.at at) sites

-- one address
abbrev pub has_ip : List Site → ℕ → Bool
has_ip sites ip = list_any (λ site. site.at.addr.0 == ip) sites
