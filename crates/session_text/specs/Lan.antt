-- The lines that tell of the server.
use Rattle.std.specs.Prelude.{ℕ, List, bytes_eq, codes, Option, Some, None, option_map, option_and_then, if◌then◌else◌}
use Rattle.text_base.specs.Addresses.{ip_of}
use Rattle.session_text.specs.Putting.{once}
use Rattle.session_text.specs.Words.{split, number_in, unicast_ip, mac_in, few_words}
use Rattle.session_text.specs.declared.lan.Terms.{Terms}
use Rattle.session_text.specs.declared.lan.Offer.{Offer}
use Rattle.session_text.specs.declared.lan.Offer.TheVariants as offer
use Rattle.session_text.specs.declared.lan.LanLine.{LanLine}
use Rattle.session_text.specs.declared.lan.LanLine.TheVariants as line
use Rattle.session_text.specs.declared.lan.LanSaid.{LanSaid}

-- an address, a mask, and seconds
abbrev pub lease_of : List ℕ → Option Terms
lease_of text =
    option_and_then (λ v. option_and_then (λ w. option_and_then (λ ip. option_and_then (λ mask.
    option_map (λ secs. record { ip = ip; mask = mask; secs = secs }) (number_in 1 4294967295 w.1))
    (ip_of w.0)) (unicast_ip v.0)) (split v.1)) (split text)

-- `http` or `plain`
abbrev pub offer_of : List ℕ → Option Offer
offer_of word =
    if bytes_eq word (codes "http") then Some offer.Http else if bytes_eq word (codes "plain") then Some offer.Plain else None

-- the line of this word, and what stands behind it
abbrev pub lan_line : List ℕ → List ℕ → Option LanLine
lan_line key text =
    if bytes_eq key (codes "smac") then option_map line.Mac (mac_in text)
    else if bytes_eq key (codes "sip") then option_map line.Ip (unicast_ip text)
    else if bytes_eq key (codes "siss") then option_map line.FirstSequence (number_in 0 4294967295 text)
    else if bytes_eq key (codes "lease") then option_map line.Lease (lease_of text)
    else if bytes_eq key (codes "router") then option_map line.Router (ip_of text)
    else if bytes_eq key (codes "dns") then option_map line.Dns (few_words ip_of 3 text)
    else if bytes_eq key (codes "offers") then option_map line.Offers (few_words offer_of 8 text)
    else None

-- each line of the server is said once
abbrev pub put_lan : LanSaid → LanLine → Option LanSaid
put_lan said (line.Mac mac) = option_map (λ m. record said { mac = m }) (once said.mac mac)
put_lan said (line.Ip ip) = option_map (λ i. record said { ip = i }) (once said.ip ip)
put_lan said (line.FirstSequence n) = option_map (λ s. record said { first_sequence = s }) (once said.first_sequence n)
put_lan said (line.Lease lease) = option_map (λ l. record said { lease = l }) (once said.lease lease)
put_lan said (line.Router ip) = option_map (λ r. record said { router = r }) (once said.router ip)
put_lan said (line.Dns servers) = option_map (λ d. record said { dns = d }) (once said.dns servers)
put_lan said (line.Offers offers) = option_map (λ o. record said { offers = o }) (once said.offers offers)
