-- A packet that was written is read again.
use Rattle.std.proofs.Common.{◌≡◌, ℕ, zero, suc, ◌+◌, ◌/◌, ◌%◌, ◌^◌, ◌<◌, ◌≤◌, ◌&&◌, ◌==◌, not, Bool, true, false, nat_le, nat_lt, List, [], ◌∷◌, ◌++◌, length, drop, codes, decimal, Option, Some, None, IfSome, if◌then◌else◌, Result, Ok, Err, IfOk, take, refl, sym, ap, ◌∙◌, append_assoc, arith}
use Rattle.std.proofs.lemmas.Bool.Decides.{nat_tests}
use Rattle.std.proofs.lemmas.Fmt.{decimal_nonempty, digits_decimal, digits_value-decimal}
use Rattle.std.proofs.lemmas.Str.Parse.{IsNumeralModel, numerals_by_value}
use Rattle.std.proofs.Common.{rules}
use Rattle.std.specs.Char.{is_ascii_digit}
use Rattle.std.specs.List.{list_all}
use Rattle.std.specs.Option.{option_map, option_and_then}
use Rattle.std.specs.Str.Parse.{digits_value}
use Rattle.byteorder.specs.Endian.{big_number, big_bytes}
use Rattle.byteorder.specs.Numbers.{big_number-reads_back}
use Rattle.efi_base.proofs.Written.{written-front}
use Rattle.efi_base.specs.declared.fault.NoRoom.{NoRoom}
use Rattle.efi_base.specs.Writes.{Writes}
use Rattle.wire_tftp.specs.declared.options.Opts.{Opts}
use Rattle.wire_tftp.specs.declared.packet.Ask.{Ask}
use Rattle.wire_tftp.specs.Options.{Item, items_of, items_in, number_of, opts_from, opts_in, opts_of}
use Rattle.wire_tftp.specs.Packets.{Message, read_request, write_request, block, acknowledgment, error, option_acknowledgment, packet_of, body_of, ask_of, ask_from, block_of, acknowledgment_of, error_of, only_text}
use Rattle.wire_tftp.specs.Spelling.{AreOpts, Fits, IsKept, is_sendable, packet_text, opts_text, number_option, ask_tail}
use Rattle.wire_tftp.specs.Texts.{is_text, texts_of, ended}
use Rattle.wire_tftp.specs.Walk.{BeginsWith}
use Rattle.wire_tftp.proofs.Joining.{item-begins}
use Rattle.wire_tftp.proofs.Numbers.{is-number}
use Rattle.wire_tftp.proofs.Splitting.{texts-front}

own : IsNumeralModel (λ ds. list_all is_ascii_digit ds ≡ true) (digits_value 10)
own = numerals_by_value _ (search rules)

number-again : (n : ℕ) → n < 2 ^ 64 → number_of (decimal n) ≡ Some n
unfolding number_of
number-again n h =
    let size = decimal_nonempty n h in
    let value : digits_value 10 (decimal n) ≡ n = digits_value-decimal own n h in
    let there : nat_le 1 (length (decimal n)) ≡ true = grind (arith, nat_tests) in
    is-number (nat_le 1 (length (decimal n))) (list_all is_ascii_digit (decimal n)) (digits_value 10 (decimal n)) there (digits_decimal own n h) (omega (arith, value, h))
    ∙ ap (λ n. Some n) value

tail-true : (a b : Bool) → (a && b) ≡ true → b ≡ true
tail-true true b h = h
tail-true false b h = absurd (cc)

digits-text : (digits : List ℕ) → list_all is_ascii_digit digits ≡ true → is_text digits ≡ true
digits-text [] h = refl
digits-text (zero ∷ digits) h = absurd (cc)
digits-text (suc c ∷ digits) h = digits-text digits (tail-true (is_ascii_digit (suc c)) (list_all is_ascii_digit digits) h)

decimal-text : (n : ℕ) → n < 2 ^ 64 → is_text (decimal n) ≡ true
decimal-text n h = digits-text (decimal n) (digits_decimal own n h)

ended-more : (text rest : List ℕ) → ended text ++ rest ≡ text ++ (0 ∷ rest)
ended-more text rest = append_assoc text (0 ∷ []) rest

-- an option and those behind it
option-front : (name rest : List ℕ) (n : ℕ) → is_text name ≡ true → n < 2 ^ 64
    → items_in ((ended name ++ ended (decimal n)) ++ rest) ≡ option_map (λ items. record { name = name; value = decimal n } ∷ items) (items_in rest)
unfolding BeginsWith
option-front name rest n t h =
    ap items_in (append_assoc (ended name) (ended (decimal n)) rest ∙ ap (λ x. ended name ++ x) (ended-more (decimal n) rest) ∙ ended-more name (decimal n ++ (0 ∷ rest)))
    ∙ item-begins (name ++ (0 ∷ (decimal n ++ (0 ∷ rest)))) name (decimal n ++ (0 ∷ rest)) (decimal n) rest
    (texts-front name (decimal n ++ (0 ∷ rest)) t) (texts-front (decimal n) rest (decimal-text n h))

append-nothing : (xs : List ℕ) → xs ++ [] ≡ xs
append-nothing [] = refl
append-nothing (x ∷ xs) = ap (λ xs. x ∷ xs) (append-nothing xs)

-- an option alone
option-last : (name : List ℕ) (n : ℕ) → is_text name ≡ true → n < 2 ^ 64
    → items_in (ended name ++ ended (decimal n)) ≡ Some (record { name = name; value = decimal n } ∷ [])
option-last name n t h = ap items_in (sym (append-nothing (ended name ++ ended (decimal n)))) ∙ option-front name [] n t h

numbers-again : (b t : Option ℕ) → IfSome b (λ n. n < 2 ^ 64) → IfSome t (λ n. n < 2 ^ 64)
    → option_and_then opts_in (items_in (number_option (codes "blksize") b ++ number_option (codes "tsize") t)) ≡ Some (record { blksize = b; tsize = t; other = false })
unfolding opts_in
numbers-again None None s r = refl
numbers-again (Some b) None s r =
    ap (option_and_then opts_in) (option-front (codes "blksize") [] b refl s)
    ∙ ap (λ x. opts_from (option_map (λ n. Some n) x) (Some None) false) (number-again b s)
numbers-again None (Some t) s r =
    ap (option_and_then opts_in) (option-last (codes "tsize") t refl r)
    ∙ ap (λ x. opts_from (Some None) (option_map (λ n. Some n) x) false) (number-again t r)
numbers-again (Some b) (Some t) s r =
    ap (option_and_then opts_in) (option-front (codes "blksize") (ended (codes "tsize") ++ ended (decimal t)) b refl s
    ∙ ap (option_map (λ items. record { name = codes "blksize"; value = decimal b } ∷ items)) (option-last (codes "tsize") t refl r))
    ∙ ap (λ x. opts_from (option_map (λ n. Some n) x) (option_map (λ n. Some n) (number_of (decimal t))) false) (number-again b s)
    ∙ ap (λ x. opts_from (Some (Some b)) (option_map (λ n. Some n) x) false) (number-again t r)

opts-again : (o : Opts) → not o.other ≡ true → AreOpts o → opts_of (opts_text o) ≡ Some o
opts-again o alone fits = numbers-again o.blksize o.tsize fits.size fits.total ∙ ap (λ b. Some (record o { other = b })) (unset o.other alone)
  where
    unset : (b : Bool) → not b ≡ true → false ≡ b
    unset true h = absurd (cc)
    unset false h = refl

asked : (mode name : Bool) (ask : Option Ask) → mode ≡ true → name ≡ true → (if mode && name then ask else None) ≡ ask
asked true true ask m n = refl
asked true false ask m n = absurd (cc)
asked false name ask m n = absurd (cc)

ask-texts : (name : List ℕ) (texts : Option (List (List ℕ))) → length name ≤ 255
    → option_and_then ask_from (option_map (λ texts. name ∷ texts) (option_map (λ texts. codes "octet" ∷ texts) texts))
    ≡ option_map (λ opts. record { name = name; opts = opts }) (option_and_then opts_in (option_and_then items_of texts))
ask-texts name None h = refl
ask-texts name (Some texts) h =
    let short : nat_le (length name) 255 ≡ true = grind (arith, nat_tests) in
    asked true (nat_le (length name) 255) (option_map (λ opts. record { name = name; opts = opts }) (option_and_then opts_in (items_of texts))) refl short

both-left : (a b : Bool) → (a && b) ≡ true → a ≡ true
both-left true b h = refl
both-left false b h = absurd (cc)

ask-again : (a : Ask) → (is_text a.name && not a.opts.other) ≡ true → length a.name ≤ 255 → AreOpts a.opts → ask_of (a.name ++ ask_tail a.opts) ≡ Some a
ask-again a sendable kept fits =
    ap (option_and_then ask_from) (texts-front a.name (codes "octet" ++ (0 ∷ opts_text a.opts)) (both-left (is_text a.name) (not a.opts.other) sendable)
    ∙ ap (option_map (λ texts. a.name ∷ texts)) (texts-front (codes "octet") (opts_text a.opts) refl))
    ∙ ask-texts a.name (texts_of (opts_text a.opts)) kept
    ∙ ap (option_map (λ opts. record { name = a.name; opts = opts })) (opts-again a.opts (tail-true (is_text a.name) (not a.opts.other) sendable) fits)

if-is : (b : Bool) (x : Option Message) → b ≡ true → (if b then x else None) ≡ x
if-is true x h = refl
if-is false x h = absurd (cc)

two-there : (a b : ℕ) (rest : List ℕ) → nat_le 2 (length (a ∷ b ∷ rest)) ≡ true
two-there a b rest = grind (arith, nat_tests)

block-again : (number : ℕ) (octets : List ℕ) → number < 2 ^ 16 → block_of (big_bytes 2 number ++ octets) ≡ Some (block number octets)
block-again number octets h =
    if-is (nat_le 2 (length (big_bytes 2 number ++ octets))) (Some (block (big_number 2 (big_bytes 2 number ++ octets)) octets))
    (two-there (number / 256 % 256) (number % 256) octets)
    ∙ ap (λ n. Some (block n octets)) (big_number-reads_back 2 number octets h)

acknowledgment-again : (number : ℕ) → number < 2 ^ 16 → acknowledgment_of (big_bytes 2 number) ≡ Some (acknowledgment number)
acknowledgment-again number h = ap (λ n. Some (acknowledgment n)) (big_number-reads_back 2 number [] h)

error-again : (code : ℕ) (text : List ℕ) → is_text text ≡ true → code < 2 ^ 16
    → error_of (big_bytes 2 code ++ (text ++ (0 ∷ []))) ≡ Some (error code text)
error-again code text t h =
    if-is (nat_le 2 (length (big_bytes 2 code ++ (text ++ (0 ∷ [])))))
    (option_map (λ text. error (big_number 2 (big_bytes 2 code ++ (text ++ (0 ∷ [])))) text) (option_and_then only_text (texts_of (text ++ (0 ∷ [])))))
    (two-there (code / 256 % 256) (code % 256) (text ++ (0 ∷ [])))
    ∙ ap (λ texts. option_map (λ text. error (big_number 2 (big_bytes 2 code ++ (text ++ (0 ∷ [])))) text) (option_and_then only_text texts)) (texts-front text [] t)
    ∙ ap (λ n. Some (error n text)) (big_number-reads_back 2 code (text ++ (0 ∷ [])) h)

packet-front : (a b : ℕ) (rest : List ℕ) → packet_of (a ∷ b ∷ rest) ≡ body_of (big_number 2 (a ∷ b ∷ rest)) rest
unfolding packet_of
packet-front a b rest = grind (arith, nat_tests)

pub packet-again : (m : Message) → is_sendable m ≡ true → IsKept m → Fits m → packet_of (packet_text m) ≡ Some m
unfolding packet_text
packet-again (read_request ask) s k f = packet-front 0 1 (ask.name ++ ask_tail ask.opts) ∙ ap (option_map read_request) (ask-again ask s k f)
packet-again (write_request ask) s k f = packet-front 0 2 (ask.name ++ ask_tail ask.opts) ∙ ap (option_map write_request) (ask-again ask s k f)
packet-again (block number octets) s k f = packet-front 0 3 (big_bytes 2 number ++ octets) ∙ block-again number octets f
packet-again (acknowledgment number) s k f = packet-front 0 4 (big_bytes 2 number) ∙ acknowledgment-again number f
packet-again (error code text) s k f = packet-front 0 5 (big_bytes 2 code ++ (text ++ (0 ∷ []))) ∙ error-again code text s f
packet-again (option_acknowledgment opts) s k f = packet-front 0 6 (opts_text opts) ∙ ap (option_map option_acknowledgment) (opts-again opts s f)

-- what was written stands in front of the room
pub written-again : (m : Message) (old : List ℕ) (result : Result ℕ NoRoom) (now : List ℕ) → is_sendable m ≡ true → Fits m
    → Writes (packet_text m) old result now → IfOk result (λ n. IsKept m → packet_of (take n now) ≡ Some m)
written-again m old (Ok n) now s f w = λ k. ap packet_of (written-front (packet_text m) old (Ok n) now w) ∙ packet-again m s k f
written-again m old (Err no_room) now s f w = tt
