-- What was written is read again.
use Rattle.std.proofs.Common.{◌≡◌, ℕ, zero, suc, ◌-◌, ◌≤◌, ◌==◌, ◌&&◌, ◌||◌, not, Bool, true, false, nat_le, replicate, List, [], ◌∷◌, ◌++◌, length, take, drop, Some, None, if◌then◌else◌, refl, sym, ap, ◌∙◌, append_assoc, length-append, arith}
use Rattle.std.proofs.lemmas.Bool.Decides.{nat_tests}
use Rattle.std.proofs.lemmas.List.{take_at, drop_at, length-replicate, append-nil}
use Rattle.std.specs.List.{list_all}
use Rattle.byteorder.specs.Endian.{big_number}
use Rattle.byteorder.specs.Numbers.{big_number-reads_back}
use Rattle.wire_dhcp.specs.declared.message.DhcpFixed.{DhcpFixed}
use Rattle.wire_dhcp.specs.Meaning.{AreFields, IsReadAs}
use Rattle.wire_dhcp.specs.Message.{are_ended, file_field, file_options, fixed_of, has_file_options, has_front, has_sname_options, is_readable, items_of, message_of, octet_of, options_field, overload_of, sname_options, until_zero}
use Rattle.wire_dhcp.specs.Options.{Item, items_from, items_in, ends_from, is_ended, value_of, count_of}
use Rattle.wire_dhcp.specs.Spelling.{dhcp_text, can_write, front_text, names_text, option_text, options_text, is_writable}
use Rattle.wire_dhcp.proofs.Walking.{items_skip, ends_skip, at-end}

both-left : (a b : Bool) → (a && b) ≡ true → a ≡ true
both-left true b h = refl
both-left false b h = absurd (cc)

both-right : (a b : Bool) → (a && b) ≡ true → b ≡ true
both-right true b h = h
both-right false b h = absurd (cc)

-- an option in front of others
items-again : (code : ℕ) (value rest : List ℕ) → 1 ≤ code → code ≤ 254
    → items_in ((code ∷ length value ∷ value) ++ rest) ≡ record { code = code; value = value } ∷ items_in rest
items-again zero value rest l h = absurd (omega arith)
items-again (suc c) value rest l h =
    let other : (suc c == 255) ≡ false = grind (arith, nat_tests) in
    let sum = length-append value rest in
    let fits : nat_le (length value) (length (value ++ rest)) ≡ true = grind (arith, nat_tests) in
    let own : take (length value) (value ++ rest) ≡ value = take_at value rest (length value) refl in
    let after : items_from (length value) (value ++ rest) ≡ items_in rest =
    items_skip (length value) (value ++ rest) ∙ ap items_in (drop_at value rest (length value) refl) in
    rw (other, fits, own, after) refl

ends-again : (code : ℕ) (value rest : List ℕ) → 1 ≤ code → code ≤ 254 → is_ended ((code ∷ length value ∷ value) ++ rest) ≡ is_ended rest
ends-again zero value rest l h = absurd (omega arith)
ends-again (suc c) value rest l h =
    let other : (suc c == 255) ≡ false = grind (arith, nat_tests) in
    let after : ends_from (length value) (value ++ rest) ≡ is_ended rest =
    ends_skip (length value) (value ++ rest) ∙ ap is_ended (drop_at value rest (length value) refl) in
    rw (other, after) refl

-- the codes of an option that can be written
record HasCode (item : Item) : Type 0 where
  least : 1 ≤ item.code
  most : item.code ≤ 254
  other : (item.code == 52) ≡ false

is-false : (b : Bool) → not b ≡ true → b ≡ false
is-false false h = refl
is-false true h = absurd (cc)

has-code : (item : Item) → is_writable item ≡ true → HasCode item
has-code item h =
    let low : nat_le 1 item.code ≡ true = both-left (nat_le 1 item.code) _ h in
    let rest = both-right (nat_le 1 item.code) _ h in
    let high : nat_le item.code 254 ≡ true = both-left (nat_le item.code 254) _ rest in
    let last = both-right (nat_le item.code 254) _ rest in
    record {
      least = grind (arith, nat_tests);
      most = grind (arith, nat_tests);
      other = is-false (item.code == 52) (both-left (not (item.code == 52)) _ last);
    }

options-again : (items : List Item) (behind : List ℕ) → list_all is_writable items ≡ true → items_in (options_text items ++ (255 ∷ behind)) ≡ items
options-again [] behind h = (at-end (255 ∷ behind) (omega arith) refl).items
options-again (item ∷ items) behind h =
    let code = has-code item (both-left (is_writable item) _ h) in
    ap items_in (append_assoc (option_text item) (options_text items) (255 ∷ behind))
    ∙ items-again item.code item.value (options_text items ++ (255 ∷ behind)) code.least code.most
    ∙ ap (λ l. item ∷ l) (options-again items behind (both-right (is_writable item) _ h))

options-ended : (items : List Item) (behind : List ℕ) → list_all is_writable items ≡ true → is_ended (options_text items ++ (255 ∷ behind)) ≡ true
options-ended [] behind h = (at-end (255 ∷ behind) (omega arith) refl).ended_is
options-ended (item ∷ items) behind h =
    let code = has-code item (both-left (is_writable item) _ h) in
    ap is_ended (append_assoc (option_text item) (options_text items) (255 ∷ behind))
    ∙ ends-again item.code item.value (options_text items ++ (255 ∷ behind)) code.least code.most
    ∙ options-ended items behind (both-right (is_writable item) _ h)

-- no overload
none-loaded : (items : List Item) → list_all is_writable items ≡ true → value_of 52 items ≡ None
none-loaded [] h = refl
none-loaded (item ∷ items) h =
    let code = has-code item (both-left (is_writable item) _ h) in
    let other : (item.code == 52) ≡ false = code.other in
    rw other (none-loaded items (both-right (is_writable item) _ h))

-- a name up to its first zero
name-again : (name : List ℕ) (n : ℕ) → list_all (λ octet. not (octet == 0)) name ≡ true → until_zero (name ++ replicate n 0) ≡ name
name-again [] zero h = refl
name-again [] (suc n) h = refl
name-again (zero ∷ name) n h = absurd (cc)
name-again (suc c ∷ name) n h = ap (λ l. suc c ∷ l) (name-again name n (both-right (not (suc c == 0)) _ h))

-- the parts of a text: front, sname, file, cookie, options, end, what is behind
seams : (a z f k o e b : List ℕ) → (((a ++ ((z ++ f) ++ k)) ++ o) ++ e) ++ b ≡ (a ++ ((z ++ f) ++ k)) ++ (o ++ (e ++ b))
seams a z f k o e b = append_assoc ((a ++ ((z ++ f) ++ k)) ++ o) e b ∙ append_assoc (a ++ ((z ++ f) ++ k)) o (e ++ b)

at-cookie : (a z f k o e b : List ℕ) → (((a ++ ((z ++ f) ++ k)) ++ o) ++ e) ++ b ≡ (a ++ (z ++ f)) ++ (k ++ (o ++ (e ++ b)))
at-cookie a z f k o e b =
    seams a z f k o e b ∙ ap (λ l. l ++ (o ++ (e ++ b))) (sym (append_assoc a (z ++ f) k)) ∙ append_assoc (a ++ (z ++ f)) k (o ++ (e ++ b))

at-file : (a z f k o e b : List ℕ) → (((a ++ ((z ++ f) ++ k)) ++ o) ++ e) ++ b ≡ (a ++ z) ++ (f ++ (k ++ (o ++ (e ++ b))))
at-file a z f k o e b =
    at-cookie a z f k o e b ∙ ap (λ l. l ++ (k ++ (o ++ (e ++ b)))) (sym (append_assoc a z f)) ∙ append_assoc (a ++ z) f (k ++ (o ++ (e ++ b)))

-- the octets in front of the rest
first-part : (m a z o e b : List ℕ) → ((((m ++ a) ++ z) ++ o) ++ e) ++ b ≡ m ++ (a ++ (z ++ (o ++ (e ++ b))))
first-part m a z o e b =
    append_assoc (((m ++ a) ++ z) ++ o) e b ∙ append_assoc ((m ++ a) ++ z) o (e ++ b) ∙ append_assoc (m ++ a) z (o ++ (e ++ b))
    ∙ append_assoc m a (z ++ (o ++ (e ++ b)))

pub front-size : (f : DhcpFixed) → length f.mac.0 ≡ 6 → length (front_text f) ≡ 44
front-size f h = omega (arith, h, length-append f.mac.0 (replicate 10 0))

abbrev filled_file : DhcpFixed → List ℕ
filled_file f = f.file ++ replicate (128 - length f.file) 0

abbrev cookie : List ℕ
cookie = 99 ∷ 130 ∷ 83 ∷ 99 ∷ []

abbrev text : DhcpFixed → List Item → List ℕ → List ℕ
text f items behind = (((front_text f ++ names_text f.file) ++ options_text items) ++ (255 ∷ [])) ++ behind

file-size : (f : DhcpFixed) → length f.file ≤ 128 → length (filled_file f) ≡ 128
file-size f h =
    let pad : length (replicate (128 - length f.file) 0) ≡ 128 - length f.file = length-replicate {A = ℕ} (128 - length f.file) 0 in
    omega (arith, h, pad, length-append f.file (replicate (128 - length f.file) 0))

options-there : (f : DhcpFixed) (items : List Item) (behind : List ℕ) → length f.mac.0 ≡ 6 → length f.file ≤ 128
    → options_field (text f items behind) ≡ options_text items ++ (255 ∷ behind)
options-there f items behind m l =
    let front = front-size f m in
    let file = file-size f l in
    let zeros : List ℕ = replicate 64 0 in
    let size : length (front_text f ++ ((zeros ++ filled_file f) ++ cookie)) ≡ 240 =
    omega (arith, front, file, length-append (front_text f) ((zeros ++ filled_file f) ++ cookie), length-append (zeros ++ filled_file f) cookie, length-append zeros (filled_file f)) in
    ap (drop 240) (seams (front_text f) zeros (filled_file f) cookie (options_text items) (255 ∷ []) behind)
    ∙ drop_at (front_text f ++ ((zeros ++ filled_file f) ++ cookie)) (options_text items ++ (255 ∷ behind)) 240 size

cookie-there : (f : DhcpFixed) (items : List Item) (behind : List ℕ) → length f.mac.0 ≡ 6 → length f.file ≤ 128
    → drop 236 (text f items behind) ≡ cookie ++ (options_text items ++ (255 ∷ behind))
cookie-there f items behind m l =
    let front = front-size f m in
    let file = file-size f l in
    let zeros : List ℕ = replicate 64 0 in
    let size : length (front_text f ++ (zeros ++ filled_file f)) ≡ 236 =
    omega (arith, front, file, length-append (front_text f) (zeros ++ filled_file f), length-append zeros (filled_file f)) in
    ap (drop 236) (at-cookie (front_text f) zeros (filled_file f) cookie (options_text items) (255 ∷ []) behind)
    ∙ drop_at (front_text f ++ (zeros ++ filled_file f)) (cookie ++ (options_text items ++ (255 ∷ behind))) 236 size

file-there : (f : DhcpFixed) (items : List Item) (behind : List ℕ) → length f.mac.0 ≡ 6 → length f.file ≤ 128
    → file_field (text f items behind) ≡ filled_file f
file-there f items behind m l =
    let front = front-size f m in
    let file = file-size f l in
    let zeros : List ℕ = replicate 64 0 in
    let size : length (front_text f ++ zeros) ≡ 108 = omega (arith, front, length-append (front_text f) zeros) in
    ap (λ l. take 128 (drop 108 l)) (at-file (front_text f) zeros (filled_file f) cookie (options_text items) (255 ∷ []) behind)
    ∙ ap (take 128) (drop_at (front_text f ++ zeros) (filled_file f ++ (cookie ++ (options_text items ++ (255 ∷ behind)))) 108 size)
    ∙ take_at (filled_file f) (cookie ++ (options_text items ++ (255 ∷ behind))) 128 file

long-enough : (f : DhcpFixed) (items : List Item) (behind : List ℕ) → length f.mac.0 ≡ 6 → length f.file ≤ 128 → 240 ≤ length (text f items behind)
long-enough f items behind m l =
    let front = front-size f m in
    let file = file-size f l in
    let zeros : List ℕ = replicate 64 0 in
    omega (
      arith,
      front,
      file,
      ap length (seams (front_text f) zeros (filled_file f) cookie (options_text items) (255 ∷ []) behind),
      length-append (front_text f ++ ((zeros ++ filled_file f) ++ cookie)) (options_text items ++ (255 ∷ behind)),
      length-append (front_text f) ((zeros ++ filled_file f) ++ cookie),
      length-append (zeros ++ filled_file f) cookie,
      length-append zeros (filled_file f),
    )

-- what a message that was written is made of
record Parts (f : DhcpFixed) (items : List Item) : Type 0 where
  name : list_all (λ octet. not (octet == 0)) f.file ≡ true
  few : length f.file ≤ 128
  good : list_all is_writable items ≡ true
  one : (count_of 53 items == 1) ≡ true

parts-of : (f : DhcpFixed) (items : List Item) → can_write f items ≡ true → Parts f items
parts-of f items h =
    let rest = both-right (list_all (λ octet. not (octet == 0)) f.file) _ h in
    let short : nat_le (length f.file) 128 ≡ true = both-left (nat_le (length f.file) 128) _ rest in
    let last = both-right (nat_le (length f.file) 128) _ rest in
    record {
      name = both-left (list_all (λ octet. not (octet == 0)) f.file) _ h;
      few = grind (arith, nat_tests);
      good = both-left (list_all is_writable items) _ last;
      one = both-right (list_all is_writable items) _ last;
    }

-- no field but that of the options has options
alone : (octets : List ℕ) → overload_of octets ≡ 0 → items_of octets ≡ items_in (options_field octets)
unfolding file_options sname_options
alone octets e =
    let file : has_file_options octets ≡ false = ap (λ n. n == 1 || n == 3) e in
    let sname : has_sname_options octets ≡ false = ap (λ n. n == 2 || n == 3) e in
    rw (file, sname) (append-nil _ ∙ append-nil _)

fields-there : (f : DhcpFixed) (items : List Item) (behind : List ℕ) → AreFields f → Parts f items → fixed_of (text f items behind) ≡ f
fields-there f items behind h p =
    let whole = text f items behind in
    let xid : big_number 4 (drop 4 whole) ≡ f.xid = big_number-reads_back 4 f.xid (drop 8 whole) h.xid in
    let flags : big_number 2 (drop 10 whole) ≡ f.flags = big_number-reads_back 2 f.flags (drop 12 whole) h.flags in
    let ciaddr : big_number 4 (drop 12 whole) ≡ f.ciaddr.0 = big_number-reads_back 4 f.ciaddr.0 (drop 16 whole) h.ciaddr in
    let yiaddr : big_number 4 (drop 16 whole) ≡ f.yiaddr.0 = big_number-reads_back 4 f.yiaddr.0 (drop 20 whole) h.yiaddr in
    let siaddr : big_number 4 (drop 20 whole) ≡ f.siaddr.0 = big_number-reads_back 4 f.siaddr.0 (drop 24 whole) h.siaddr in
    let mac : take 6 (drop 28 whole) ≡ f.mac.0 =
    ap (take 6) (first-part f.mac.0 (replicate 10 0) (names_text f.file) (options_text items) (255 ∷ []) behind)
    ∙ take_at f.mac.0 (replicate 10 0 ++ (names_text f.file ++ (options_text items ++ (255 ∷ behind)))) 6 h.mac in
    let file : until_zero (file_field whole) ≡ f.file = ap until_zero (file-there f items behind h.mac p.few) ∙ name-again f.file (128 - length f.file) p.name in
    rw (xid, flags, ciaddr, yiaddr, siaddr, mac, file) refl

front-there : (f : DhcpFixed) (items : List Item) (behind : List ℕ) → length f.mac.0 ≡ 6 → length f.file ≤ 128 → has_front (text f items behind) ≡ true
front-there f items behind m l =
    let long : nat_le 240 (length (text f items behind)) ≡ true = at-least 240 (length (text f items behind)) (long-enough f items behind m l) in
    let right : (big_number 4 (drop 236 (text f items behind)) == 1669485411) ≡ true =
    ap (λ l. big_number 4 l == 1669485411) (cookie-there f items behind m l) in
    all-three _ _ long right
  where
    at-least : (least n : ℕ) → least ≤ n → nat_le least n ≡ true
    at-least least n h = grind (arith, nat_tests)

    all-three : (a b : Bool) → a ≡ true → b ≡ true → (a && (true && (true && b))) ≡ true
    all-three true b x y = y
    all-three false b x y = absurd (cc)

is-message : (octets : List ℕ) → has_front octets ≡ true → are_ended octets ≡ true → (count_of 53 (items_of octets) == 1) ≡ true → message_of octets ≡ Some octets
unfolding is_readable
is-message octets f e c = taken _ _ _ octets f e c
  where
    taken : (a b d : Bool) (x : List ℕ) → a ≡ true → b ≡ true → d ≡ true → (if a && (b && d) then Some x else None) ≡ Some x
    taken true true true x f e c = refl
    taken true true false x f e c = absurd (cc)
    taken true false d x f e c = absurd (cc)
    taken false b d x f e c = absurd (cc)

ended-alone : (octets : List ℕ) → overload_of octets ≡ 0 → is_ended (options_field octets) ≡ true → are_ended octets ≡ true
ended-alone octets e h =
    let file : has_file_options octets ≡ false = ap (λ n. n == 1 || n == 3) e in
    let sname : has_sname_options octets ≡ false = ap (λ n. n == 2 || n == 3) e in
    rw (h, file, sname) refl

pub message-again : (f : DhcpFixed) (items : List Item) (behind : List ℕ) → AreFields f → can_write f items ≡ true → IsReadAs (dhcp_text f items ++ behind) f items
unfolding dhcp_text
message-again f items behind h w =
    let p = parts-of f items w in
    let whole = text f items behind in
    let field = options-there f items behind h.mac p.few in
    let found : items_in (options_field whole) ≡ items = ap items_in field ∙ options-again items behind p.good in
    let ended : is_ended (options_field whole) ≡ true = ap is_ended field ∙ options-ended items behind p.good in
    let load : overload_of whole ≡ 0 = ap (λ l. octet_of (value_of 52 l)) found ∙ ap octet_of (none-loaded items p.good) in
    let all : items_of whole ≡ items = alone whole load ∙ found in
    let fields = fields-there f items behind h p in
    record {
      readable = is-message whole (front-there f items behind h.mac p.few) (ended-alone whole load ended) (ap (λ l. count_of 53 l == 1) all ∙ p.one);
      fields = fields;
      file = ap (λ n. if n == 1 || n == 3 then [] else until_zero (file_field whole)) load ∙ ap (λ f. f.file) fields;
      options = λ code. ap (value_of code) all;
    }
