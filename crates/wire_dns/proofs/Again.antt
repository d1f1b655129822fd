-- A name and a question that were written are read again.
use Rattle.std.proofs.Common.{◌≡◌, ◌≢◌, ℕ, zero, suc, ◌+◌, ◌^◌, ◌<◌, ◌≤◌, ◌==◌, ◌⊎◌, inl, inr, Bool, true, false, nat_le, List, [], ◌∷◌, ◌++◌, length, drop, Option, Some, None, refl, sym, ap, ◌∙◌, append_assoc, length-append, arith}
use Rattle.std.proofs.Math.Seq.{take-append_seam, drop-append_seam}
use Rattle.std.proofs.lemmas.Bool.Decides.{nat_tests}
use Rattle.std.proofs.lemmas.List.{drop-drop}
use Rattle.std.specs.List.{list_all}
use Rattle.std.specs.Option.{option_map, option_and_then}
use Rattle.byteorder.specs.Endian.{big_number, big_bytes}
use Rattle.byteorder.specs.Numbers.{big_number-reads_back}
use Rattle.efi_base.specs.HostNames.{labels, grow, is_label}
use Rattle.wire_dns.specs.Messages.{word_at}
use Rattle.wire_dns.specs.Names.{spelled, spelled_size, earlier, kept, name_at, behind_name, name_read}
use Rattle.wire_dns.specs.Parts.{followed}
use Rattle.wire_dns.specs.Spelling.{labels_text, name_text, is_name}
use Rattle.wire_dns.proofs.Labels.{labels-dot, labels-grown, both-left, both-right, start-fits, name-short, name-length}
use Rattle.wire_dns.proofs.Options.{if-true}
use Rattle.wire_dns.proofs.Spelling.{label-more, label-size, in-label, in-label-size}

-- each label with a dot in front
dotted : List (List ℕ) → List ℕ
dotted [] = []
dotted (label ∷ more) = (46 ∷ label) ++ dotted more

grown-dotted : (c : ℕ) (found : List (List ℕ)) (text : List ℕ) → dotted found ≡ 46 ∷ text → dotted (grow c found) ≡ 46 ∷ c ∷ text
unfolding dotted
grown-dotted c [] text e = absurd (cc)
grown-dotted c (label ∷ more) text e = let same : label ++ dotted more ≡ text = cc in ap (λ t. 46 ∷ c ∷ t) same

either-dot : (c : ℕ) → (c ≡ 46) ⊎ (c ≢ 46)
either-dot c = by_test (c == 46) refl
  where
    by_test : (t : Bool) → (c == 46) ≡ t → (c ≡ 46) ⊎ (c ≢ 46)
    by_test true e = inl (grind (arith, nat_tests))
    by_test false e = inr (λ h. absurd (grind (arith, nat_tests)))

dotted-one : (c : ℕ) (text : List ℕ) → ((c ≡ 46) ⊎ (c ≢ 46)) → dotted (labels text) ≡ 46 ∷ text → dotted (labels (c ∷ text)) ≡ 46 ∷ c ∷ text
unfolding dotted
dotted-one c text (inl is) e = ap dotted (labels-dot c text is) ∙ ap (λ t. 46 ∷ t) e ∙ ap (λ c. 46 ∷ c ∷ text) (sym is)
dotted-one c text (inr other) e = ap dotted (labels-grown c text other) ∙ grown-dotted c (labels text) text e

dotted-labels : (text : List ℕ) → dotted (labels text) ≡ 46 ∷ text
unfolding dotted
dotted-labels [] = refl
dotted-labels (c ∷ text) = dotted-one c text (either-dot c) (dotted-labels text)

some-label : (label : List ℕ) → is_label label ≡ true → 0 < length label
some-label label fits =
    let some : nat_le 1 (length label) ≡ true = both-left (nat_le 1 (length label)) (nat_le (length label) 63) fits in
    grind (arith, nat_tests)

short-label : (label : List ℕ) → is_label label ≡ true → length label < 64
short-label label fits =
    let short : nat_le (length label) 63 ≡ true = both-right (nat_le 1 (length label)) (nat_le (length label) 63) fits in
    grind (arith, nat_tests)

long-enough : (label rest : List ℕ) → length label ≤ length (label ++ rest)
long-enough label rest = omega (arith, length-append label rest)

-- a label that was written, and what follows it
label-front : (led : ℕ → Option (List ℕ)) (label rest : List ℕ) → is_label label ≡ true
    → spelled led zero (length label ∷ (label ++ rest)) ≡ followed (46 ∷ label) (spelled led zero rest)
label-front led label rest fits =
    in-label led (length label) (label ++ rest) (some-label label fits) (short-label label fits)
    ∙ ap (option_map (λ text. 46 ∷ text)) (label-more led (length label) (label ++ rest) (long-enough label rest)
    ∙ ap (λ t. followed t (spelled led zero (drop (length label) (label ++ rest)))) (take-append_seam label rest)
    ∙ ap (λ t. followed label (spelled led zero t)) (drop-append_seam label rest))
    ∙ twice (spelled led zero rest)
  where
    twice : (rest : Option (List ℕ)) → option_map (λ text. 46 ∷ text) (followed label rest) ≡ followed (46 ∷ label) rest
    twice None = refl
    twice (Some more) = refl

size-front : (label rest : List ℕ) → is_label label ≡ true → spelled_size zero (length label ∷ (label ++ rest)) ≡ suc (length label + spelled_size zero rest)
size-front label rest fits =
    in-label-size (length label) (label ++ rest) (some-label label fits) (short-label label fits)
    ∙ ap suc (label-size (length label) (label ++ rest) (long-enough label rest) ∙ ap (λ t. length label + spelled_size zero t) (drop-append_seam label rest))

labels-again : (led : ℕ → Option (List ℕ)) (found : List (List ℕ)) (rest : List ℕ) → list_all is_label found ≡ true
    → spelled led zero (labels_text found ++ rest) ≡ Some (dotted found)
unfolding dotted spelled
labels-again led [] rest fit = refl
labels-again led (label ∷ more) rest fit =
    ap (λ t. spelled led zero (length label ∷ t)) (append_assoc label (labels_text more) rest)
    ∙ label-front led label (labels_text more ++ rest) (both-left (is_label label) (list_all is_label more) fit)
    ∙ ap (followed (46 ∷ label)) (labels-again led more rest (both-right (is_label label) (list_all is_label more) fit))

labels-size : (found : List (List ℕ)) (rest : List ℕ) → list_all is_label found ≡ true → spelled_size zero (labels_text found ++ rest) ≡ length (labels_text found)
unfolding spelled_size
labels-size [] rest fit = refl
labels-size (label ∷ more) rest fit =
    let e = labels-size more rest (both-right (is_label label) (list_all is_label more) fit) in
    ap (λ t. spelled_size zero (length label ∷ t)) (append_assoc label (labels_text more) rest)
    ∙ size-front label (labels_text more ++ rest) (both-left (is_label label) (list_all is_label more) fit)
    ∙ omega (arith, e, length-append label (labels_text more))

-- a name is spelled, and has its size
name-kept : (led : ℕ → Option (List ℕ)) (name rest : List ℕ) → is_name name ≡ true
    → option_and_then kept (spelled led zero (name_text name ++ rest)) ≡ Some name
unfolding name_text spelled
name-kept led [] rest fits = refl
name-kept led (c ∷ name) rest fits =
    let short = name-short (c ∷ name) fits in
    let size = name-length (c ∷ name) (omega arith) in
    ap (option_and_then kept) (labels-again led (labels (c ∷ name)) rest (start-fits (c ∷ name) (omega arith) fits) ∙ ap (λ t. Some t) (dotted-labels (c ∷ name)))
    ∙ if-true (nat_le (length (46 ∷ c ∷ name)) 254) _ _ (few (length (c ∷ name)) (omega (arith, short, size)))
  where
    few : (n : ℕ) → n ≤ 253 → nat_le (suc n) 254 ≡ true
    few n h = grind (arith, nat_tests)

name-size : (name rest : List ℕ) → is_name name ≡ true → spelled_size zero (name_text name ++ rest) ≡ length (name_text name)
unfolding name_text spelled_size
name-size [] rest fits = refl
name-size (c ∷ name) rest fits = labels-size (labels (c ∷ name)) rest (start-fits (c ∷ name) (omega arith) fits)

-- the name at a place where it was written
pub name-there : (name back msg : List ℕ) (place : ℕ) → drop place msg ≡ name_text name ++ back → is_name name ≡ true → name_at msg place ≡ Some name
unfolding name_at
name-there name back msg place here fits =
    ap (λ t. option_and_then kept (spelled (earlier msg place) zero t)) here ∙ name-kept (earlier msg place) name back fits

pub behind-there : (name back msg : List ℕ) (place : ℕ) → drop place msg ≡ name_text name ++ back → is_name name ≡ true
    → behind_name msg place ≡ place + length (name_text name)
behind-there name back msg place here fits = ap (λ t. place + spelled_size zero t) here ∙ ap (λ k. place + k) (name-size name back fits)

pub name-again : (name back msg : List ℕ) (place : ℕ) → drop place msg ≡ name_text name ++ back → is_name name ≡ true
    → name_read msg place ≡ Some (name, place + length (name_text name))
name-again name back msg place here fits =
    ap (option_map (λ n. (n, behind_name msg place))) (name-there name back msg place here fits) ∙ ap (λ k. Some (name, k)) (behind-there name back msg place here fits)

-- a number of two octets where it was written
pub word-again : (back msg : List ℕ) (place n : ℕ) → drop place msg ≡ big_bytes 2 n ++ back → n < 2 ^ 16 → word_at msg place ≡ n
word-again back msg place n here h = ap (big_number 2) here ∙ big_number-reads_back 2 n back h

-- what stands further on
pub further : (first back msg : List ℕ) (place next : ℕ) → drop place msg ≡ first ++ back → next ≡ place + length first → drop next msg ≡ back
further first back msg place next here n =
    ap (λ k. drop k msg) n ∙ sym (drop-drop (length first) place msg) ∙ ap (drop (length first)) here ∙ drop-append_seam first back
