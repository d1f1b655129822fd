-- The lengths of the messages that are sent.
use Rattle.std.proofs.Common.{◌≡◌, ◌+◌, ◌-◌, ◌≤◌, ℕ, List, [], ◌∷◌, ◌++◌, length, replicate, refl, sym, ap, ◌∙◌, append_assoc, length-append, arith}
use Rattle.std.proofs.lemmas.List.{length-replicate}
use Rattle.efi_base.specs.declared.plain.Ip4.{Ip4}
use Rattle.efi_base.specs.declared.plain.Mac.{Mac}
use Rattle.wire_dhcp.specs.declared.granting.Grant.{Grant}
use Rattle.wire_dhcp.specs.declared.message.DhcpFixed.{DhcpFixed}
use Rattle.wire_dhcp.specs.Granted.{addresses_text, answer_fields, boot_options, grant_options, grant_text, router_text, said}
use Rattle.wire_dhcp.specs.Options.{Item}
use Rattle.wire_dhcp.specs.Sent.{discover_options, discover_text, nowhere, padded, release_options, release_text, renewal_options, renewal_text, request_options, request_text, station_fields}
use Rattle.wire_dhcp.specs.Spelling.{dhcp_text, option_text, options_text}
use Rattle.wire_dhcp.proofs.Again.{front-size}
use Rattle.wire_dhcp.proofs.Cursor.{text-size}
use Rattle.wire_dhcp.proofs.Granted.{addresses-size, router-size}

padded-size : (text : List ℕ) → length (padded text) ≡ length text + (300 - length text)
padded-size text = length-append text (replicate (300 - length text) 0) ∙ ap (λ n. length text + n) (length-replicate {A = ℕ} (300 - length text) 0)

sent-size : (mac : Mac) (xid : ℕ) (ip : Ip4) (items : List Item) → length mac.0 ≡ 6
    → length (dhcp_text (station_fields mac xid ip) items) ≡ 241 + length (options_text items)
sent-size mac xid ip items h = text-size (station_fields mac xid ip) items (front-size (station_fields mac xid ip) h) (omega arith)

pub discover-size : (mac : Mac) (xid : ℕ) → length mac.0 ≡ 6 → length (discover_text mac xid) ≡ 300
unfolding discover_text
discover-size mac xid h =
    omega (arith, padded-size (dhcp_text (station_fields mac xid nowhere) discover_options), sent-size mac xid nowhere discover_options h)

pub request-size : (mac : Mac) (xid : ℕ) (ip server : Ip4) → length mac.0 ≡ 6 → length (request_text mac xid ip server) ≡ 310
unfolding request_text
request-size mac xid ip server h =
    omega (arith, padded-size (dhcp_text (station_fields mac xid nowhere) (request_options ip server)), sent-size mac xid nowhere (request_options ip server) h)

pub renewal-size : (mac : Mac) (xid : ℕ) (ip : Ip4) → length mac.0 ≡ 6 → length (renewal_text mac xid ip) ≡ 300
unfolding renewal_text
renewal-size mac xid ip h =
    omega (arith, padded-size (dhcp_text (station_fields mac xid ip) renewal_options), sent-size mac xid ip renewal_options h)

pub release-size : (mac : Mac) (xid : ℕ) (ip server : Ip4) → length mac.0 ≡ 6 → length (release_text mac xid ip server) ≡ 300
unfolding release_text
release-size mac xid ip server h =
    omega (arith, padded-size (dhcp_text (station_fields mac xid ip) (release_options server)), sent-size mac xid ip (release_options server) h)

texts-append : (a b : List Item) → options_text (a ++ b) ≡ options_text a ++ options_text b
texts-append [] b = refl
texts-append (item ∷ a) b = ap (λ l. option_text item ++ l) (texts-append a b) ∙ sym (append_assoc (option_text item) (options_text a) (options_text b))

said-size : (code : ℕ) (value : List ℕ) → length (options_text (said code value)) ≤ 2 + length value
said-size code [] = omega arith
said-size code (o ∷ value) = omega (arith, length-append (option_text (record { code = code; value = o ∷ value })) [])

boot-size : (uri : List ℕ) → length (options_text (boot_options uri)) ≤ 14 + length uri
boot-size [] = omega arith
boot-size (o ∷ uri) = omega (arith, length-append (option_text (record { code = 67; value = o ∷ uri })) [])

-- an answer of a server
pub grant-size : (kind : ℕ) (asked : DhcpFixed) (g : Grant) → length asked.mac.0 ≡ 6 → length g.dns.now ≤ 3 → length g.uri.now ≤ 255
    → length (grant_text kind asked g) ≤ 551
unfolding grant_text
grant-size kind asked g m d u =
    let f = answer_fields asked g.ip in
    let r = said 3 (router_text g.router) in
    let s = said 6 (addresses_text g.dns.now) in
    let b = boot_options g.uri.now in
    let more = texts-append r (s ++ b) in
    let last = texts-append s b in
    omega (
      arith,
      text-size f (grant_options kind g) (front-size f m) (omega arith),
      ap length more,
      ap length last,
      length-append (options_text r) (options_text (s ++ b)),
      length-append (options_text s) (options_text b),
      said-size 3 (router_text g.router),
      said-size 6 (addresses_text g.dns.now),
      boot-size g.uri.now,
      router-size g.router,
      addresses-size g.dns.now,
      d,
      u,
    )
