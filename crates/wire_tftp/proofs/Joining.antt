-- Options one after the other.
use Rattle.std.proofs.Common.{◌≡◌, ℕ, suc, ◌<◌, ◌||◌, Bool, true, false, cond, find, ◌≤◌, List, [], ◌∷◌, length, codes, Option, Some, None, refl, sym, ap, ◌∙◌, arith}
use Rattle.std.specs.Option.{option_map, option_and_then}
use Rattle.std.specs.List.{list_any}
use Rattle.std.specs.Str.{str_eq_ignore_ascii_case}
use Rattle.wire_tftp.specs.declared.options.Opts.{Opts}
use Rattle.wire_tftp.specs.Options.{Item, items_of, items_in, opts_of, opts_in, opts_from, said, said_by, is_other, number_of}
use Rattle.wire_tftp.specs.Texts.{texts_of}
use Rattle.wire_tftp.specs.Walk.{BeginsWith, joined, first_said}

items-two : (name value : List ℕ) (texts : Option (List (List ℕ)))
    → option_and_then items_of (option_map (λ texts. name ∷ texts) (option_map (λ texts. value ∷ texts) texts))
    ≡ option_map (λ items. record { name = name; value = value } ∷ items) (option_and_then items_of texts)
items-two name value None = refl
items-two name value (Some texts) = refl

-- a name and its value
pub item-begins : (octets name after value behind : List ℕ) → texts_of octets ≡ option_map (λ texts. name ∷ texts) (texts_of after)
    → texts_of after ≡ option_map (λ texts. value ∷ texts) (texts_of behind) → BeginsWith octets (record { name = name; value = value }) behind
unfolding BeginsWith
item-begins octets name after value behind first second =
    ap (option_and_then items_of) (first ∙ ap (option_map (λ texts. name ∷ texts)) second) ∙ items-two name value (texts_of behind)

-- a name alone
pub item-alone : (octets name after : List ℕ) → texts_of octets ≡ option_map (λ texts. name ∷ texts) (texts_of after)
    → (0 < length after → texts_of after ≡ None) → items_in octets ≡ None
item-alone octets name [] first none = ap (option_and_then items_of) first
item-alone octets name (d ∷ after) first none = ap (option_and_then items_of) (first ∙ ap (option_map (λ texts. name ∷ texts)) (none (omega arith)))

-- a number that was said first counts
some-said : (number : Option ℕ) (later : Option (Option ℕ))
    → option_map (λ n. Some n) number ≡ option_and_then (λ f. first_said f later) (option_map (λ n. Some n) number)
some-said None later = refl
some-said (Some n) later = refl

one-more : (same : Bool) (i : Item) (later : Option Item)
    → first_said None (said_by (option_map (λ i. i.value) (cond same (Some i) later)))
    ≡ option_and_then (λ f. first_said f (said_by (option_map (λ i. i.value) later)))
    (first_said None (said_by (option_map (λ i. i.value) (cond same (Some i) None))))
one-more true i later = some-said (number_of i.value) (said_by (option_map (λ i. i.value) later))
one-more false i later = refl

-- one counted value, and those behind it
said-more : (found : Option ℕ) (name : List ℕ) (i : Item) (items : List Item)
    → first_said found (said name (i ∷ items)) ≡ option_and_then (λ f. first_said f (said name items)) (first_said found (said name (i ∷ [])))
said-more (Some n) name i items = refl
said-more None name i items = one-more (str_eq_ignore_ascii_case i.name name) i (find (λ i. str_eq_ignore_ascii_case i.name name) items)

or-more : (o p s : Bool) → (o || (p || s)) ≡ ((o || (p || false)) || s)
or-more true p s = refl
or-more false true s = refl
or-more false false s = refl

no-total : (blksize : Option (Option ℕ)) (other : Bool) → opts_from blksize None other ≡ None
no-total None other = refl
no-total (Some blksize) other = refl

opts-more : (x y r q : Option (Option ℕ)) (o p s : Bool)
    → opts_from (option_and_then (λ f. first_said f r) x) (option_and_then (λ f. first_said f q) y) (o || (p || s))
    ≡ option_and_then (λ g. opts_from (first_said g.blksize r) (first_said g.tsize q) (g.other || s)) (opts_from x y (o || (p || false)))
opts-more None y r q o p s = refl
opts-more (Some b) None r q o p s = no-total (first_said b r) (o || (p || s))
opts-more (Some b) (Some t) r q o p s = ap (opts_from (first_said b r) (first_said t q)) (or-more o p s)

joined-more : (f : Opts) (i : Item) (items : List Item) → joined f (i ∷ items) ≡ option_and_then (λ g. joined g items) (joined f (i ∷ []))
unfolding joined
joined-more f i items =
    ap (λ x. opts_from x (first_said f.tsize (said (codes "tsize") (i ∷ items))) (f.other || list_any is_other (i ∷ items))) (said-more f.blksize (codes "blksize") i items)
    ∙ ap (λ y. opts_from (option_and_then (λ g. first_said g (said (codes "blksize") items)) (first_said f.blksize (said (codes "blksize") (i ∷ [])))) y (f.other || list_any is_other (i ∷ items))) (said-more f.tsize (codes "tsize") i items)
    ∙ opts-more (first_said f.blksize (said (codes "blksize") (i ∷ []))) (first_said f.tsize (said (codes "tsize") (i ∷ []))) (said (codes "blksize") items) (said (codes "tsize") items)
    f.other (is_other i) (list_any is_other items)

mapped-item : (found next : Opts) (i : Item) (items : Option (List Item)) → Some next ≡ joined found (i ∷ [])
    → option_and_then (joined found) (option_map (λ items. i ∷ items) items) ≡ option_and_then (joined next) items
mapped-item found next i None e = refl
mapped-item found next i (Some items) e = joined-more found i items ∙ ap (option_and_then (λ g. joined g items)) (sym e)

mapped-bad : (found : Opts) (i : Item) (items : Option (List Item)) → None ≡ joined found (i ∷ [])
    → option_and_then (joined found) (option_map (λ items. i ∷ items) items) ≡ None
mapped-bad found i None e = refl
mapped-bad found i (Some items) e = joined-more found i items ∙ ap (option_and_then (λ g. joined g items)) (sym e)

-- one option more
pub walk-item : (found next : Opts) (i : Item) (octets rest : List ℕ) (whole : Option Opts) → BeginsWith octets i rest
    → Some next ≡ joined found (i ∷ []) → option_and_then (joined found) (items_in octets) ≡ whole → option_and_then (joined next) (items_in rest) ≡ whole
unfolding BeginsWith
walk-item found next i octets rest whole b e w = sym (mapped-item found next i (items_in rest) e) ∙ ap (option_and_then (joined found)) (sym b) ∙ w

-- one whose counted value is no number
pub walk-bad : (found : Opts) (i : Item) (octets rest : List ℕ) (whole : Option Opts) → BeginsWith octets i rest
    → None ≡ joined found (i ∷ []) → option_and_then (joined found) (items_in octets) ≡ whole → whole ≡ None
unfolding BeginsWith
walk-bad found i octets rest whole b e w = sym w ∙ ap (option_and_then (joined found)) b ∙ mapped-bad found i (items_in rest) e

start-items : (items : Option (List Item)) → option_and_then (joined (record { blksize = None; tsize = None; other = false })) items ≡ option_and_then opts_in items
unfolding joined opts_in
start-items None = refl
start-items (Some items) = refl

-- nothing was found at first
pub walk-start : (octets : List ℕ) → option_and_then (joined (record { blksize = None; tsize = None; other = false })) (items_in octets) ≡ opts_of octets
walk-start octets = start-items (items_in octets)

first-alone : (found : Option ℕ) → first_said found (Some None) ≡ Some found
first-alone None = refl
first-alone (Some n) = refl

or-false : (b : Bool) → (b || false) ≡ b
or-false true = refl
or-false false = refl

joined-nothing : (f : Opts) → joined f [] ≡ Some f
unfolding joined
joined-nothing f = rw (first-alone f.blksize, first-alone f.tsize, or-false f.other) refl

-- the octets end
pub walk-empty : (found : Opts) (octets : List ℕ) (whole : Option Opts) → length octets ≤ 0
    → option_and_then (joined found) (items_in octets) ≡ whole → whole ≡ Some found
walk-empty found [] whole h w = sym w ∙ joined-nothing found
walk-empty found (d ∷ octets) whole h w = absurd (omega arith)
