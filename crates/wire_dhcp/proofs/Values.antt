-- Values of options, as they are read from a room.
use Rattle.std.proofs.Common.{◌≡◌, ◌≢◌, ℕ, zero, suc, ◌+◌, ◌-◌, ◌≤◌, ◌<◌, ◌==◌, Bool, true, false, ◌&&◌, List, [], ◌∷◌, ◌++◌, length, get_or, take, drop, filter, Option, Some, None, option_map, refl, sym, ap, ◌∙◌, append_assoc, cond, arith}
use Rattle.std.proofs.lemmas.List.{take_all, take_at, take_rest, take_more}
use Rattle.std.specs.Prelude.{bytes_eq, codes, map}
use Rattle.byteorder.specs.Endian.{big_number}
use Rattle.efi_base.specs.Addresses.{is_unicast}
use Rattle.efi_base.specs.declared.plain.Ip4.{Ip4}
use Rattle.wire_dhcp.specs.Filling.{filled, laid_at}
use Rattle.wire_dhcp.specs.Leases.{without_zeros, behind_zero, addresses_in, unicast_in}
use Rattle.efi_base.specs.declared.plain.Mac.{Mac}
use Rattle.wire_dhcp.specs.declared.message.DhcpFixed.{DhcpFixed}
use Rattle.wire_dhcp.specs.declared.says.Reply.{Reply}
use Rattle.wire_dhcp.specs.Message.{fixed_of, octet_of, option_of}
use Rattle.wire_dhcp.specs.Replies.{begins_as_http, is_for, offer_of, reply_by, reply_of, server_of}

-- a room that isn't longer than the value
pub laid-full : (value room : List ℕ) → length room ≤ length value → laid_at 0 value room ≡ take (length room) value
laid-full value [] h = refl
laid-full [] (r ∷ room) h = absurd (omega arith)
laid-full (x ∷ value) (r ∷ room) h = ap (λ l. x ∷ l) (laid-full value room (omega arith))

pub value-whole : (value : Option (List ℕ)) (size : ℕ) (room later : List ℕ) → Some size ≡ option_map length value → length room ≡ size
    → later ≡ filled value room → Some later ≡ value
value-whole None size room later s l e = absurd (cc)
value-whole (Some v) size room later s l e =
    let same : size ≡ length v = cc in
    ap (λ x. Some x) (e ∙ laid-full v room (omega arith) ∙ take_all (length room) v (omega arith))

zeros-alone : (octets : List ℕ) → without_zeros (octets ++ (0 ∷ [])) ≡ without_zeros octets
zeros-alone [] = refl
zeros-alone (zero ∷ octets) = ap behind_zero (zeros-alone octets)
zeros-alone (suc c ∷ octets) = ap (λ l. suc c ∷ l) (zeros-alone octets)

zeros-text : (octets : List ℕ) (c : ℕ) → without_zeros (octets ++ (suc c ∷ [])) ≡ octets ++ (suc c ∷ [])
zeros-text [] c = refl
zeros-text (zero ∷ octets) c = ap behind_zero (zeros-text octets c) ∙ in-front octets c
  where
    in-front : (octets : List ℕ) (c : ℕ) → behind_zero (octets ++ (suc c ∷ [])) ≡ 0 ∷ (octets ++ (suc c ∷ []))
    in-front [] c = refl
    in-front (x ∷ octets) c = refl
zeros-text (suc d ∷ octets) c = ap (λ l. suc d ∷ l) (zeros-text octets c)

-- a zero more
pub zeros-more : (octets : List ℕ) (i stop : ℕ) → i < length octets → get_or octets i 0 ≡ 0 → take stop octets ≡ without_zeros (take i octets)
    → take stop octets ≡ without_zeros (take (i + 1) octets)
zeros-more octets i stop h z e =
    e ∙ sym (zeros-alone (take i octets)) ∙ ap (λ x. without_zeros (take i octets ++ (x ∷ []))) (sym z) ∙ ap without_zeros (sym (take_more octets i 0 h))

-- another octet more
pub zeros-end : (octets : List ℕ) (i : ℕ) → i < length octets → get_or octets i 0 ≢ 0 → take (i + 1) octets ≡ without_zeros (take (i + 1) octets)
zeros-end octets i h z = by-octet (get_or octets i 0) refl
  where
    by-octet : (x : ℕ) → get_or octets i 0 ≡ x → take (i + 1) octets ≡ without_zeros (take (i + 1) octets)
    by-octet zero e = absurd (z e)
    by-octet (suc c) e =
        let last : take (i + 1) octets ≡ take i octets ++ (suc c ∷ []) = take_more octets i 0 h ∙ ap (λ x. take i octets ++ (x ∷ [])) e in
        last ∙ sym (zeros-text (take i octets) c) ∙ ap without_zeros (sym last)

unicast-more : (ip : ℕ) (ips : List ℕ) → unicast_in (ip ∷ ips) ≡ unicast_in (ip ∷ []) ++ unicast_in ips
unicast-more ip ips = step (is_unicast ip)
  where
    step : (good : Bool) → map (λ ip. record { 0 = ip }) (cond good (ip ∷ filter is_unicast ips) (filter is_unicast ips))
        ≡ map (λ ip. record { 0 = ip }) (cond good (ip ∷ []) []) ++ unicast_in ips
    step true = refl
    step false = refl

four-more : (rest : List ℕ) → 4 ≤ length rest → addresses_in rest ≡ big_number 4 (drop 0 rest) ∷ addresses_in (take (length rest - 4) (drop 4 rest))
four-more [] h = absurd (omega arith)
four-more (a ∷ []) h = absurd (omega arith)
four-more (a ∷ b ∷ []) h = absurd (omega arith)
four-more (a ∷ b ∷ c ∷ []) h = absurd (omega arith)
four-more (a ∷ b ∷ c ∷ d ∷ rest) h = ap (λ l. big_number 4 (a ∷ b ∷ c ∷ d ∷ rest) ∷ addresses_in l) (sym (take_rest (a ∷ b ∷ c ∷ d ∷ rest) 4))

take-twice : (n : ℕ) (a b : List Ip4) → take n (take n a ++ b) ≡ take n (a ++ b)
take-twice zero a b = refl
take-twice (suc n) [] b = refl
take-twice (suc n) (x ∷ a) b = ap (λ l. x ∷ l) (take-twice n a b)

pub servers-more : (servers later : List Ip4) (rest : List ℕ) (whole : List Ip4) → 4 ≤ length rest
    → later ≡ take 3 (servers ++ unicast_in (big_number 4 (drop 0 rest) ∷ [])) → take 3 (servers ++ unicast_in (addresses_in rest)) ≡ whole
    → take 3 (later ++ unicast_in (addresses_in (take (length rest - 4) (drop 4 rest)))) ≡ whole
servers-more servers later rest whole h e w =
    let ip = big_number 4 (drop 0 rest) in
    let behind = addresses_in (take (length rest - 4) (drop 4 rest)) in
    ap (λ s. take 3 (s ++ unicast_in behind)) e ∙ take-twice 3 (servers ++ unicast_in (ip ∷ [])) (unicast_in behind)
    ∙ ap (take 3) (append_assoc servers (unicast_in (ip ∷ [])) (unicast_in behind) ∙ ap (λ l. servers ++ l) (sym (unicast-more ip behind))
    ∙ ap (λ l. servers ++ unicast_in l) (sym (four-more rest h))) ∙ w

none-in : (rest : List ℕ) → length rest < 4 → addresses_in rest ≡ []
none-in [] h = refl
none-in (a ∷ []) h = refl
none-in (a ∷ b ∷ []) h = refl
none-in (a ∷ b ∷ c ∷ []) h = refl
none-in (a ∷ b ∷ c ∷ d ∷ rest) h = absurd (omega arith)

append-nothing : (xs : List Ip4) → xs ++ [] ≡ xs
append-nothing [] = refl
append-nothing (x ∷ xs) = ap (λ l. x ∷ l) (append-nothing xs)

pub servers-end : (servers : List Ip4) (rest : List ℕ) (whole : List Ip4) → length rest < 4 → length servers ≤ 3
    → take 3 (servers ++ unicast_in (addresses_in rest)) ≡ whole → servers ≡ whole
servers-end servers rest whole h l w =
    sym (take_all 3 servers l) ∙ ap (take 3) (sym (append-nothing servers)) ∙ ap (λ a. take 3 (servers ++ unicast_in a)) (sym (none-in rest h)) ∙ w

bytes-short : (a b : List ℕ) → length a < length b → bytes_eq a b ≡ false
bytes-short [] [] h = absurd (omega arith)
bytes-short [] (y ∷ b) h = refl
bytes-short (x ∷ a) [] h = absurd (omega arith)
bytes-short (x ∷ a) (y ∷ b) h = both-false (x == y) (bytes_eq a b) (bytes-short a b (omega arith))
  where
    both-false : (p q : Bool) → q ≡ false → (p && q) ≡ false
    both-false true q e = e
    both-false false q e = refl

-- an option that begins as one of HTTP
pub http-read : (value : Option (List ℕ)) (size : ℕ) (before room : List ℕ) → Some size ≡ option_map length value → 10 ≤ size → length before ≡ 10
    → room ≡ filled value before → bytes_eq room (codes "HTTPClient") ≡ begins_as_http value
http-read None size before room s h l e = absurd (cc)
http-read (Some v) size before room s h l e =
    let same : size ≡ length v = cc in
    ap (λ r. bytes_eq r (codes "HTTPClient")) (e ∙ laid-full v before (omega arith) ∙ ap (λ n. take n v) l)

pub http-short : (value : Option (List ℕ)) (size : ℕ) → Some size ≡ option_map length value → size < 10 → false ≡ begins_as_http value
http-short None size s h = absurd (cc)
http-short (Some v) size s h =
    let same : size ≡ length v = cc in
    let all : take 10 v ≡ v = take_all 10 v (omega arith) in
    sym (bytes-short (take 10 v) (codes "HTTPClient") (rw all (omega arith)))

-- a vector whose octets were all written
pub vec-filled : (size : ℕ) (later items : List ℕ) → length later ≡ length items → size ≡ length items → take size (later ++ drop (length later) items) ≡ later
vec-filled size later items l s = take_at later (drop (length later) items) size (l ∙ sym s)

-- a message for the station
pub reply-for : (mac : Mac) (octets : List ℕ) (fixed : DhcpFixed) (kind : ℕ) (answer : Option Reply) → fixed ≡ fixed_of octets
    → kind ≡ octet_of (option_of 53 octets) → (fixed.op == 2 && bytes_eq fixed.mac.0 mac.0) ≡ true
    → answer ≡ reply_by kind fixed.xid (offer_of octets) (server_of octets) → answer ≡ reply_of mac octets
unfolding reply_of
reply-for mac octets fixed kind answer f k t a =
    let test : is_for mac.0 octets ≡ true = ap (λ f. f.op == 2 && bytes_eq f.mac.0 mac.0) (sym f) ∙ t in
    let said : answer ≡ reply_by (octet_of (option_of 53 octets)) (fixed_of octets).xid (offer_of octets) (server_of octets) =
    a ∙ ap (λ k. reply_by k fixed.xid (offer_of octets) (server_of octets)) k
    ∙ ap (λ f. reply_by (octet_of (option_of 53 octets)) f.xid (offer_of octets) (server_of octets)) f in
    said ∙ taken (is_for mac.0 octets) _ test
  where
    taken : (b : Bool) (x : Option Reply) → b ≡ true → x ≡ cond b x None
    taken true x h = refl
    taken false x h = absurd (cc)
