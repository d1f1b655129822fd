-- Labels, as they are written.
use Rattle.std.proofs.Common.{◌≡◌, ◌≢◌, ℕ, zero, suc, ◌+◌, ◌-◌, ◌<◌, ◌≤◌, ◌==◌, ◌&&◌, Bool, true, false, cond, nat_le, List, [], ◌∷◌, ◌++◌, length, get_or, take, drop, refl, sym, ap, ◌∙◌, add-one, length-append, arith}
use Rattle.std.proofs.lemmas.Bool.Decides.{nat_tests}
use Rattle.std.proofs.lemmas.List.{take_all, length-drop}
use Rattle.std.specs.List.{list_all}
use Rattle.efi_base.specs.HostNames.{labels, grow, is_label}
use Rattle.wire_dns.specs.Spelling.{labels_text, name_text, is_name}
use Rattle.wire_dns.proofs.Options.{if-true, if-false}

not-dot : (c : ℕ) → c ≢ 46 → (c == 46) ≡ false
not-dot c h = grind (arith, nat_tests)

is-dot : (c : ℕ) → c ≡ 46 → (c == 46) ≡ true
is-dot c h = grind (arith, nat_tests)

-- a dot in front
pub labels-dot : (c : ℕ) (text : List ℕ) → c ≡ 46 → labels (c ∷ text) ≡ [] ∷ labels text
labels-dot c text h = if-true (c == 46) _ _ (is-dot c h)

-- another octet in front
pub labels-grown : (c : ℕ) (text : List ℕ) → c ≢ 46 → labels (c ∷ text) ≡ grow c (labels text)
labels-grown c text h = if-false (c == 46) _ _ (not-dot c h)

-- the first dot stands at n
pub labels-cut : (text : List ℕ) (n : ℕ) → n < length text → ((k : ℕ) → k < n → get_or text k 0 ≢ 46) → get_or text n 0 ≡ 46
    → labels text ≡ take n text ∷ labels (drop (suc n) text)
labels-cut [] n h none at = absurd (omega arith)
labels-cut (c ∷ text) zero h none at = labels-dot c text at
labels-cut (c ∷ text) (suc n) h none at =
    labels-grown c text (none 0 (omega arith)) ∙ ap (grow c) (labels-cut text n (omega arith) (λ k l. none (suc k) (omega arith)) at)

-- there is no dot
pub labels-one : (text : List ℕ) → ((k : ℕ) → k < length text → get_or text k 0 ≢ 46) → labels text ≡ text ∷ []
labels-one [] none = refl
labels-one (c ∷ text) none =
    labels-grown c text (none 0 (omega arith)) ∙ ap (grow c) (labels-one text (λ k l. none (suc k) (omega arith)))

pub first-cut : (text : List ℕ) (n : ℕ) → n < length text → ((k : ℕ) → k < n → get_or text k 0 ≢ 46) → get_or text n 0 ≡ 46
    → labels text ≡ take n text ∷ labels (take (length text - (n + 1)) (drop (n + 1) text))
first-cut text n h none at =
    let whole : take (length text - (n + 1)) (drop (n + 1) text) ≡ drop (n + 1) text = take_all _ _ (omega (arith, length-drop (n + 1) text)) in
    rw (whole, add-one) (labels-cut text n h none at)

pub first-only : (text : List ℕ) (n : ℕ) → n ≡ length text → ((k : ℕ) → k < n → get_or text k 0 ≢ 46) → labels text ≡ text ∷ []
first-only text n e none = labels-one text (λ k l. none k (omega arith))

-- lengths
grown-some : (c : ℕ) (found : List (List ℕ)) → 0 < length (grow c found)
grown-some c [] = omega arith
grown-some c (label ∷ more) = omega arith

pub labels-some : (text : List ℕ) → 0 < length (labels text)
labels-some [] = omega arith
labels-some (c ∷ text) = by_test (c == 46)
  where
    by_test : (t : Bool) → 0 < length (cond t ([] ∷ labels text) (grow c (labels text)))
    by_test true = omega arith
    by_test false = grown-some c (labels text)

grown-length : (c : ℕ) (found : List (List ℕ)) → 0 < length found → length (labels_text (grow c found)) ≡ suc (length (labels_text found))
grown-length c [] h = absurd (omega arith)
grown-length c (label ∷ more) h = refl

pub labels-length : (text : List ℕ) → length (labels_text (labels text)) ≡ length text + 2
labels-length [] = refl
labels-length (c ∷ text) = by_test (c == 46) (labels-length text)
  where
    by_test : (t : Bool) → length (labels_text (labels text)) ≡ length text + 2
        → length (labels_text (cond t ([] ∷ labels text) (grow c (labels text)))) ≡ suc (length text) + 2
    by_test true e = omega (arith, e)
    by_test false e = omega (arith, e, grown-length c (labels text) (labels-some text))

pub name-length : (name : List ℕ) → 1 ≤ length name → length name + 2 ≡ length (name_text name)
unfolding name_text
name-length [] h = absurd (omega arith)
name-length (c ∷ name) h = sym (labels-length (c ∷ name))

pub empty-length : (name : List ℕ) → length name < 1 → 1 ≡ length (name_text name)
unfolding name_text
empty-length [] h = refl
empty-length (c ∷ name) h = absurd (omega arith)

pub both-left : (a b : Bool) → (a && b) ≡ true → a ≡ true
both-left true b h = refl
both-left false b h = absurd (cc)

pub both-right : (a b : Bool) → (a && b) ≡ true → b ≡ true
both-right true b h = h
both-right false b h = absurd (cc)

pub name-short : (name : List ℕ) → is_name name ≡ true → length (name_text name) ≤ 255
name-short [] h = let e = empty-length [] (omega arith) in omega (arith, e)
name-short (c ∷ name) h =
    let short : nat_le (length (c ∷ name)) 253 ≡ true = both-left (nat_le (length (c ∷ name)) 253) (list_all is_label (labels (c ∷ name))) h in
    let few : length (c ∷ name) ≤ 253 = grind (arith, nat_tests) in
    let e = name-length (c ∷ name) (omega arith) in
    omega (arith, e, few)

-- writing
pub name-start : (old name : List ℕ) → 1 ≤ length name → old ++ name_text name ≡ old ++ labels_text (labels name)
unfolding name_text
name-start old [] h = absurd (omega arith)
name-start old (c ∷ name) h = refl

pub start-fits : (name : List ℕ) → 1 ≤ length name → is_name name ≡ true → list_all is_label (labels name) ≡ true
start-fits [] h fits = absurd (omega arith)
start-fits (c ∷ name) h fits = both-right (nat_le (length (c ∷ name)) 253) (list_all is_label (labels (c ∷ name))) fits

pub name-full : (all now : List ℕ) (found : List (List ℕ)) (label : List ℕ) (more : List (List ℕ)) → all ≡ now ++ labels_text found → found ≡ label ∷ more
    → 500 < length now + (1 + length label) → 500 < length all
name-full all now found label more e f full =
    let whole : length all ≡ length (now ++ ((length label ∷ label) ++ labels_text more)) = ap length (e ∙ ap (λ ls. now ++ labels_text ls) f) in
    omega (arith, whole, length-append now ((length label ∷ label) ++ labels_text more), length-append (length label ∷ label) (labels_text more))

pub empty-text : (name : List ℕ) → length name ≤ 0 → name_text name ≡ 0 ∷ []
unfolding name_text
empty-text [] h = refl
empty-text (c ∷ name) h = absurd (omega arith)
