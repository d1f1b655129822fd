-- Texts that grow in front of a room.
use Rattle.std.proofs.Common.{◌≡◌, ℕ, zero, suc, ◌+◌, ◌-◌, ◌≤◌, ◌<◌, ◌==◌, ◌&&◌, not, Bool, true, false, nat_le, get_or, replicate, List, [], ◌∷◌, ◌++◌, length, take, drop, refl, sym, ap, ◌∙◌, append_assoc, length-append, subst, arith}
use Rattle.std.proofs.lemmas.Bool.Decides.{nat_tests}
use Rattle.std.proofs.lemmas.List.{take_at, drop_at, drop-drop, length-replicate, take_more, drop_more}
use Rattle.std.specs.List.{list_all}
use Rattle.wire_dhcp.specs.declared.message.DhcpFixed.{DhcpFixed}
use Rattle.wire_dhcp.specs.declared.options.DhcpOption.{DhcpOption}
use Rattle.wire_dhcp.specs.Options.{Item}
use Rattle.wire_dhcp.specs.Spelling.{dhcp_text, can_write, front_text, names_text, option_text, options_text, is_writable}
use Rattle.wire_dhcp.specs.Walk.{item_seen, items_seen}
use Rattle.wire_dhcp.specs.Filling.{Stands}

pub stands-start : (room : List ℕ) → Stands [] room 0 room
stands-start room = record { size = refl; room_is = refl }

-- octets more
pub stands-more : (text before octets room later : List ℕ) (place : ℕ) → Stands text before place room
    → later ≡ (take place room ++ octets) ++ drop (place + length octets) room → Stands (text ++ octets) before (place + length octets) later
stands-more text before octets room later place h e = record {
  size = ap (λ n. n + length octets) h.size ∙ sym (length-append text octets);
  room_is =
      let front : take place room ≡ text = ap (take place) h.room_is ∙ take_at text (drop place before) place (sym h.size) in
      let gone : drop place room ≡ drop place before = ap (drop place) h.room_is ∙ drop_at text (drop place before) place (sym h.size) in
      let rest : drop (place + length octets) room ≡ drop (place + length octets) before =
      sym (drop-drop (length octets) place room) ∙ ap (drop (length octets)) gone ∙ drop-drop (length octets) place before in
      e ∙ ap (λ t. (t ++ octets) ++ drop (place + length octets) room) front ∙ ap (λ r. (text ++ octets) ++ r) rest;
}

-- the same text in two spellings
pub stands-as : (text other before room : List ℕ) (place : ℕ) → text ≡ other → Stands text before place room → Stands other before place room
stands-as text other before room place e h = subst (λ t. Stands t before place room) e h

-- the parts in front of the options
pub head-parts : (front file filled_file : List ℕ) → filled_file ≡ file ++ replicate (128 - length file) 0
    → ((([] ++ front) ++ replicate 64 0) ++ filled_file) ++ (99 ∷ 130 ∷ 83 ∷ 99 ∷ []) ≡ front ++ names_text file
head-parts front file filled_file e =
    ap (λ x. ((front ++ replicate 64 0) ++ x) ++ (99 ∷ 130 ∷ 83 ∷ 99 ∷ [])) e
    ∙ joins front (replicate 64 0) (file ++ replicate (128 - length file) 0) (99 ∷ 130 ∷ 83 ∷ 99 ∷ [])
  where
    joins : (p q r s : List ℕ) → ((p ++ q) ++ r) ++ s ≡ p ++ ((q ++ r) ++ s)
    joins p q r s = ap (λ x. x ++ s) (append_assoc p q r) ∙ append_assoc p (q ++ r) s

pub names-size : (file : List ℕ) → length file ≤ 128 → length (names_text file) ≡ 196
names-size file h =
    let pad : length (replicate (128 - length file) 0) ≡ 128 - length file = length-replicate {A = ℕ} (128 - length file) 0 in
    let one = length-append (replicate 64 0 ++ (file ++ replicate (128 - length file) 0)) (99 ∷ 130 ∷ 83 ∷ 99 ∷ []) in
    let two = length-append (replicate 64 0) (file ++ replicate (128 - length file) 0) in
    let three = length-append file (replicate (128 - length file) 0) in
    omega (arith, pad, one, two, three)

-- the length of a message
pub text-size : (f : DhcpFixed) (items : List Item) → length (front_text f) ≡ 44 → length f.file ≤ 128
    → length (dhcp_text f items) ≡ 241 + length (options_text items)
unfolding dhcp_text
text-size f items h l =
    let one = length-append ((front_text f ++ names_text f.file) ++ options_text items) (255 ∷ []) in
    let two = length-append (front_text f ++ names_text f.file) (options_text items) in
    let three = length-append (front_text f) (names_text f.file) in
    omega (arith, one, two, three, h, names-size f.file l)

-- a whole text
pub stands-whole : (text before room : List ℕ) (place : ℕ) → Stands text before place room → length text ≤ length before
    → (place ≡ length text) × (length text ≤ length before) × (room ≡ text ++ drop (length text) before)
stands-whole text before room place h l = (h.size, l, h.room_is ∙ ap (λ n. text ++ drop n before) h.size)

-- one option more of a list
option-seen : (options : List DhcpOption) (i : ℕ) (d : DhcpOption) → i < length options
    → options_text (items_seen (drop i options)) ≡ option_text (item_seen (get_or options i d)) ++ options_text (items_seen (drop (i + 1) options))
option-seen options i d h = ap (λ l. options_text (items_seen l)) (drop_more options i d h)

texts-append : (a b : List DhcpOption) → options_text (items_seen (a ++ b)) ≡ options_text (items_seen a) ++ options_text (items_seen b)
texts-append [] b = refl
texts-append (o ∷ a) b = ap (λ l. option_text (item_seen o) ++ l) (texts-append a b) ∙ sym (append_assoc (option_text (item_seen o)) (options_text (items_seen a)) (options_text (items_seen b)))

append-nothing : (xs : List ℕ) → xs ++ [] ≡ xs
append-nothing [] = refl
append-nothing (x ∷ xs) = ap (λ l. x ∷ l) (append-nothing xs)

pub options-more : (options : List DhcpOption) (i : ℕ) (d : DhcpOption) (text : List ℕ) → i < length options
    → (text ++ options_text (items_seen (take i options))) ++ option_text (item_seen (get_or options i d)) ≡ text ++ options_text (items_seen (take (i + 1) options))
options-more options i d text h =
    append_assoc text (options_text (items_seen (take i options))) (option_text (item_seen (get_or options i d)))
    ∙ ap (λ l. text ++ l) (ap (λ l. options_text (items_seen (take i options)) ++ l) (sym (append-nothing (option_text (item_seen (get_or options i d)))))
    ∙ sym (texts-append (take i options) (get_or options i d ∷ []))
    ∙ ap (λ l. options_text (items_seen l)) (sym (take_more options i d h)))

pub size-more : (options : List DhcpOption) (i : ℕ) (d : DhcpOption) → i < length options
    → length (options_text (items_seen (drop i options))) ≡ length (option_text (item_seen (get_or options i d))) + length (options_text (items_seen (drop (i + 1) options)))
size-more options i d h = ap length (option-seen options i d h) ∙ length-append (option_text (item_seen (get_or options i d))) (options_text (items_seen (drop (i + 1) options)))

both-left : (a b : Bool) → (a && b) ≡ true → a ≡ true
both-left true b h = refl
both-left false b h = absurd (cc)

both-right : (a b : Bool) → (a && b) ≡ true → b ≡ true
both-right true b h = h
both-right false b h = absurd (cc)

-- a value of an option that can be written
pub short-value : (options : List DhcpOption) (i : ℕ) (d : DhcpOption) → i < length options → list_all is_writable (items_seen options) ≡ true
    → length (get_or options i d).value.now ≤ 255
short-value [] i d h g = absurd (omega arith)
short-value (o ∷ options) zero d h g =
    let good : is_writable (item_seen o) ≡ true = both-left (is_writable (item_seen o)) _ g in
    let few : nat_le (length o.value.now) 255 ≡ true =
    both-right (not (o.code == 52)) _ (both-right (nat_le o.code 254) _ (both-right (nat_le 1 o.code) _ good)) in
    grind (arith, nat_tests)
short-value (o ∷ options) (suc i) d h g = short-value options i d (omega arith) (both-right (is_writable (item_seen o)) _ g)

pub file-short : (f : DhcpFixed) (items : List Item) → can_write f items ≡ true → length f.file ≤ 128
file-short f items h =
    let few : nat_le (length f.file) 128 ≡ true = both-left (nat_le (length f.file) 128) _ (both-right (list_all (λ octet. not (octet == 0)) f.file) _ h) in
    grind (arith, nat_tests)

pub all-writable : (f : DhcpFixed) (items : List Item) → can_write f items ≡ true → list_all is_writable items ≡ true
all-writable f items h =
    both-left (list_all is_writable items) _ (both-right (nat_le (length f.file) 128) _ (both-right (list_all (λ octet. not (octet == 0)) f.file) _ h))

pub no-room : (n room : ℕ) → 240 < room → nat_le n (room - 240 - 1) ≡ false → room < 241 + n
no-room n room h t = grind (arith, nat_tests)

pub some-room : (n room : ℕ) → 240 < room → nat_le n (room - 240 - 1) ≡ true → 241 + n ≤ room
some-room n room h t = grind (arith, nat_tests)
