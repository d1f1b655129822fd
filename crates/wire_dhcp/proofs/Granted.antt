-- The options of a server's answer.
use Rattle.std.proofs.Common.{◌≡◌, ℕ, suc, ◌+◌, ◌*◌, ◌≤◌, ◌<◌, ◌==◌, ◌&&◌, Bool, true, false, nat_le, get_or, List, [], ◌∷◌, ◌++◌, length, drop, Option, Some, None, refl, sym, ap, ◌∙◌, append_assoc, length-append, arith}
use Rattle.std.proofs.lemmas.Bool.Decides.{nat_tests}
use Rattle.std.proofs.lemmas.List.{map-append, drop_more}
use Rattle.std.specs.List.{list_all}
use Rattle.std.specs.Prelude.{codes}
use Rattle.byteorder.specs.Endian.{big_bytes}
use Rattle.efi_base.specs.declared.plain.Ip4.{Ip4}
use Rattle.wire_dhcp.specs.declared.message.DhcpFixed.{DhcpFixed}
use Rattle.wire_dhcp.specs.declared.options.DhcpOption.{DhcpOption}
use Rattle.wire_dhcp.specs.Granted.{addresses_text, answer_fields, boot_options, options_with, router_text, said}
use Rattle.wire_dhcp.specs.Options.{Item, count_of}
use Rattle.wire_dhcp.specs.Spelling.{can_write, is_writable}
use Rattle.wire_dhcp.specs.Walk.{item_seen, items_seen}
use Rattle.wire_dhcp.proofs.Fields.{count_append}

both-left : (a b : Bool) → (a && b) ≡ true → a ≡ true
both-left true b h = refl
both-left false b h = absurd (cc)

both-right : (a b : Bool) → (a && b) ≡ true → b ≡ true
both-right true b h = h
both-right false b h = absurd (cc)

both : (a b : Bool) → a ≡ true → b ≡ true → (a && b) ≡ true
both true b h g = g
both false b h g = absurd (cc)

all-both : (a b : List Item) → list_all is_writable a ≡ true → list_all is_writable b ≡ true → list_all is_writable (a ++ b) ≡ true
all-both [] b h g = g
all-both (item ∷ a) b h g = both (is_writable item) _ (both-left (is_writable item) _ h) (all-both a b (both-right (is_writable item) _ h) g)

few-octets : (value : List ℕ) → length value ≤ 255 → nat_le (length value) 255 ≡ true
few-octets value h = grind (arith, nat_tests)

router-good : (value : List ℕ) → length value ≤ 255 → list_all is_writable (said 3 value) ≡ true
router-good [] h = refl
router-good (o ∷ value) h = let few : nat_le (length (o ∷ value)) 255 ≡ true = few-octets (o ∷ value) h in rw few refl

dns-good : (value : List ℕ) → length value ≤ 255 → list_all is_writable (said 6 value) ≡ true
dns-good [] h = refl
dns-good (o ∷ value) h = let few : nat_le (length (o ∷ value)) 255 ≡ true = few-octets (o ∷ value) h in rw few refl

boot-good : (value : List ℕ) → length value ≤ 255 → list_all is_writable (boot_options value) ≡ true
boot-good [] h = refl
boot-good (o ∷ value) h = let few : nat_le (length (o ∷ value)) 255 ≡ true = few-octets (o ∷ value) h in rw few refl

router-other : (value : List ℕ) → count_of 53 (said 3 value) ≡ 0
router-other [] = refl
router-other (o ∷ value) = refl

dns-other : (value : List ℕ) → count_of 53 (said 6 value) ≡ 0
dns-other [] = refl
dns-other (o ∷ value) = refl

boot-other : (value : List ℕ) → count_of 53 (boot_options value) ≡ 0
boot-other [] = refl
boot-other (o ∷ value) = refl

-- such an answer can be written
pub grant-good : (asked : DhcpFixed) (ip : Ip4) (kind server secs mask : ℕ) (router dns uri : List ℕ) → length router ≤ 255 → length dns ≤ 255 → length uri ≤ 255
    → can_write (answer_fields asked ip) (options_with kind server secs mask router dns uri) ≡ true
grant-good asked ip kind server secs mask router dns uri r d u =
    let all : list_all is_writable (said 3 router ++ (said 6 dns ++ boot_options uri)) ≡ true =
    all-both (said 3 router) (said 6 dns ++ boot_options uri) (router-good router r) (all-both (said 6 dns) (boot_options uri) (dns-good dns d) (boot-good uri u)) in
    let none : count_of 53 (said 3 router ++ (said 6 dns ++ boot_options uri)) ≡ 0 =
    omega (arith, count_append 53 (said 3 router) (said 6 dns ++ boot_options uri), count_append 53 (said 6 dns) (boot_options uri), router-other router, dns-other dns, boot-other uri) in
    both (list_all is_writable (said 3 router ++ (said 6 dns ++ boot_options uri))) _ all (ap (λ n. suc n == 1) none)

-- an option more
pub seen-more : (options later : List DhcpOption) (option : DhcpOption) → later ≡ options ++ (option ∷ []) → items_seen later ≡ items_seen options ++ (item_seen option ∷ [])
seen-more options later option e = ap items_seen e ∙ map-append item_seen options (option ∷ [])

pub said-some : (code : ℕ) (value : List ℕ) → 0 < length value → record { code = code; value = value } ∷ [] ≡ said code value
said-some code [] h = absurd (omega arith)
said-some code (o ∷ value) h = refl

pub said-none : (code : ℕ) (value : List ℕ) → length value ≤ 0 → said code value ≡ []
said-none code [] h = refl
said-none code (o ∷ value) h = absurd (omega arith)

pub boot-none : (value : List ℕ) → length value ≤ 0 → boot_options value ≡ []
boot-none [] h = refl
boot-none (o ∷ value) h = absurd (omega arith)

-- an address more
pub addresses-more : (ips : List Ip4) (i : ℕ) (d : Ip4) (octets later : List ℕ) → i < length ips → later ≡ octets ++ big_bytes 4 (get_or ips i d).0
    → octets ++ addresses_text (drop i ips) ≡ addresses_text ips → later ++ addresses_text (drop (i + 1) ips) ≡ addresses_text ips
addresses-more ips i d octets later h e w =
    ap (λ l. l ++ addresses_text (drop (i + 1) ips)) e ∙ append_assoc octets (big_bytes 4 (get_or ips i d).0) (addresses_text (drop (i + 1) ips))
    ∙ ap (λ l. octets ++ addresses_text l) (sym (drop_more ips i d h)) ∙ w

pub addresses-size : (ips : List Ip4) → length (addresses_text ips) ≡ 4 * length ips
addresses-size [] = refl
addresses-size (ip ∷ ips) = omega (arith, length-append (big_bytes 4 ip.0) (addresses_text ips), addresses-size ips)

pub router-size : (router : Option Ip4) → length (router_text router) ≤ 4
router-size None = omega arith
router-size (Some ip) = omega arith

-- a URI and its class
boot-joined : (uri : List ℕ) → 0 < length uri → said 60 (codes "HTTPClient") ++ said 67 uri ≡ boot_options uri
boot-joined [] h = absurd (omega arith)
boot-joined (o ∷ uri) h = refl

pub more-joined : (before one two three four : List Item) (router dns uri : List ℕ) → one ≡ before ++ said 3 router → two ≡ one ++ said 6 dns
    → three ≡ two ++ said 60 (codes "HTTPClient") → four ≡ three ++ said 67 uri → 0 < length uri
    → four ≡ before ++ (said 3 router ++ (said 6 dns ++ boot_options uri))
more-joined before one two three four router dns uri a b c d h =
    let r = said 3 router in
    let s = said 6 dns in
    let class = said 60 (codes "HTTPClient") in
    d ∙ ap (λ l. l ++ said 67 uri) (c ∙ ap (λ l. l ++ class) (b ∙ ap (λ l. l ++ s) a))
    ∙ append_assoc ((before ++ r) ++ s) class (said 67 uri) ∙ ap (λ l. ((before ++ r) ++ s) ++ l) (boot-joined uri h)
    ∙ append_assoc (before ++ r) s (boot_options uri) ∙ append_assoc before r (s ++ boot_options uri)

append-none : (xs : List Item) → xs ++ [] ≡ xs
append-none [] = refl
append-none (x ∷ xs) = ap (λ l. x ∷ l) (append-none xs)

-- no URI
pub more-none : (before one two : List Item) (router dns uri : List ℕ) → one ≡ before ++ said 3 router → two ≡ one ++ said 6 dns
    → length uri ≤ 0 → two ≡ before ++ (said 3 router ++ (said 6 dns ++ boot_options uri))
more-none before one two router dns uri a b h =
    b ∙ ap (λ l. l ++ said 6 dns) a ∙ append_assoc before (said 3 router) (said 6 dns)
    ∙ ap (λ l. before ++ (said 3 router ++ l)) (sym (append-none (said 6 dns)) ∙ ap (λ l. said 6 dns ++ l) (sym (boot-none uri h)))

-- the options of all parts
pub grant-items : (seen main : List Item) (kind s t m : ℕ) (server secs mask r d router dns uri : List ℕ)
    → main ≡ said 53 (kind ∷ []) ++ (said 54 server ++ (said 51 secs ++ said 1 mask)) → server ≡ big_bytes 4 s → secs ≡ big_bytes 4 t → mask ≡ big_bytes 4 m
    → seen ≡ main ++ (said 3 r ++ (said 6 d ++ boot_options uri)) → r ≡ router → d ≡ dns
    → seen ≡ options_with kind s t m router dns uri
grant-items seen main kind s t m server secs mask r d router dns uri a sa ta ma b ra da =
    let all : List Item → List ℕ → List ℕ → List Item = λ front x y. front ++ (said 3 x ++ (said 6 y ++ boot_options uri)) in
    let four : List ℕ → List ℕ → List ℕ → List Item = λ x y z. said 53 (kind ∷ []) ++ (said 54 x ++ (said 51 y ++ said 1 z)) in
    b ∙ ap (λ l. all l r d) (a ∙ ap (λ x. four x secs mask) sa ∙ ap (λ y. four (big_bytes 4 s) y mask) ta ∙ ap (λ z. four (big_bytes 4 s) (big_bytes 4 t) z) ma)
    ∙ ap (λ x. all (four (big_bytes 4 s) (big_bytes 4 t) (big_bytes 4 m)) x d) ra ∙ ap (λ y. all (four (big_bytes 4 s) (big_bytes 4 t) (big_bytes 4 m)) router y) da
