-- The name of an address can be written.
use Rattle.std.proofs.Common.{◌≡◌, ◌≢◌, ℕ, ◌/◌, ◌%◌, ◌^◌, ◌<◌, ◌≤◌, ◌&&◌, Bool, true, nat_le, List, [], ◌∷◌, ◌++◌, length, codes, decimal, refl, sym, ap, ◌∙◌, append_assoc, length-append, arith}
use Rattle.std.proofs.Common.{rules}
use Rattle.std.proofs.lemmas.Bool.Decides.{nat_tests}
use Rattle.std.proofs.lemmas.Fmt.{decimal_nonempty, digits_decimal, length-decimal-le}
use Rattle.std.proofs.lemmas.Str.Parse.{IsNumeralModel, numerals_by_value}
use Rattle.std.specs.Char.{is_ascii_digit}
use Rattle.std.specs.List.{list_all}
use Rattle.std.specs.Str.Parse.{digits_value}
use Rattle.efi_base.specs.HostNames.{labels, grow, is_label}
use Rattle.wire_dns.specs.Questions.{octet_label, pointer_name}
use Rattle.wire_dns.specs.Spelling.{is_name}
use Rattle.wire_dns.proofs.Labels.{labels-grown, both-left, both-right}

own : IsNumeralModel (λ ds. list_all is_ascii_digit ds ≡ true) (digits_value 10)
own = numerals_by_value _ (search rules)

digit-no-dot : (c : ℕ) → is_ascii_digit c ≡ true → c ≢ 46
digit-no-dot c h e = let dot : is_ascii_digit 46 ≡ true = ap is_ascii_digit (sym e) ∙ h in absurd (cc)

-- digits and a dot in front
digits-front : (digits rest : List ℕ) → list_all is_ascii_digit digits ≡ true → labels (digits ++ (46 ∷ rest)) ≡ digits ∷ labels rest
digits-front [] rest h = refl
digits-front (c ∷ digits) rest h =
    labels-grown c (digits ++ (46 ∷ rest)) (digit-no-dot c (both-left (is_ascii_digit c) (list_all is_ascii_digit digits) h))
    ∙ ap (grow c) (digits-front digits rest (both-right (is_ascii_digit c) (list_all is_ascii_digit digits) h))

pub few-digits : (n : ℕ) → n < 256 → length (decimal n) ≤ 3
few-digits n h = let small : n < 10 ^ 3 = omega arith in search (rules, length-decimal-le 3)

both : (a b : Bool) → a ≡ true → b ≡ true → (a && b) ≡ true
both a b e f = cc

number-label : (n : ℕ) → n < 256 → is_label (decimal n) ≡ true
number-label n h =
    let some = decimal_nonempty n (omega arith) in
    let few = few-digits n h in
    both (nat_le 1 (length (decimal n))) (nat_le (length (decimal n)) 63) (grind (arith, nat_tests)) (grind (arith, nat_tests))

label-in-front : (n : ℕ) (rest : List ℕ) → n < 256 → list_all is_label (labels rest) ≡ true → list_all is_label (labels (octet_label n ++ rest)) ≡ true
label-in-front n rest h fit =
    ap (λ t. list_all is_label (labels t)) (append_assoc (decimal n) (46 ∷ []) rest) ∙ ap (list_all is_label) (digits-front (decimal n) rest (digits_decimal own n (omega arith)))
    ∙ both (is_label (decimal n)) (list_all is_label (labels rest)) (number-label n h) fit

host-name : (text : List ℕ) → length text ≤ 253 → list_all is_label (labels text) ≡ true → is_name text ≡ true
host-name [] short fit = refl
host-name (c ∷ text) short fit = both (nat_le (length (c ∷ text)) 253) (list_all is_label (labels (c ∷ text))) (grind (arith, nat_tests)) fit

octet-short : (n : ℕ) → n < 256 → length (octet_label n) ≤ 4
octet-short n h = let few = few-digits n h in omega (arith, few, length-append (decimal n) (46 ∷ []))

-- four numbers in front of what stands behind them
four-labels : (a b c d : ℕ) (back : List ℕ) → a < 256 → b < 256 → c < 256 → d < 256 → length back ≤ 237 → list_all is_label (labels back) ≡ true
    → is_name (octet_label a ++ octet_label b ++ octet_label c ++ octet_label d ++ back) ≡ true
four-labels a b c d back ha hb hc hd short fit =
    let A = octet_label a in
    let B = octet_label b in
    let C = octet_label c in
    let D = octet_label d in
    let same : A ++ B ++ C ++ D ++ back ≡ A ++ (B ++ (C ++ (D ++ back))) = simp append_assoc in
    ap is_name same
    ∙ host-name (A ++ (B ++ (C ++ (D ++ back))))
    (omega (arith, octet-short a ha, octet-short b hb, octet-short c hc, octet-short d hd, short, length-append A (B ++ (C ++ (D ++ back))), length-append B (C ++ (D ++ back)), length-append C (D ++ back), length-append D back))
    (label-in-front a (B ++ (C ++ (D ++ back))) ha (label-in-front b (C ++ (D ++ back)) hb (label-in-front c (D ++ back) hc (label-in-front d back hd fit))))

pub pointer-named : (ip : ℕ) → ip < 2 ^ 32 → is_name (pointer_name ip) ≡ true
unfolding pointer_name
pointer-named ip h =
    four-labels (ip % 256) (ip / 256 % 256) (ip / 65536 % 256) (ip / 16777216) (codes "in-addr.arpa") (omega arith) (omega arith) (omega arith) (omega arith) (omega arith) refl
