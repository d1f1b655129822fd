-- What was found of the options so far, joined with what the rest gives, is what all give.
use Rattle.std.proofs.Common.{◌≡◌, ℕ, zero, suc, ◌<◌, ◌≤◌, ◌==◌, ◌&&◌, List, [], ◌∷◌, length, slice_index, Option, Some, None, refl, sym, ap, ◌∙◌, arith}
use Rattle.std.proofs.lemmas.List.Folds.{find-append}
use Rattle.std.specs.Option.{option_map, option_or}
use Rattle.wire_l4.specs.Options.{Item, items_of, mss_in, shift_in, first_value}
use Rattle.wire_l4.specs.Walk.{Known, known_in, joined, BeginsWith}

or-none : {T : Type 0} (o : Option T) → option_or o None ≡ o
or-none None = refl
or-none (Some x) = refl

or-assoc : {T : Type 0} (a b c : Option T) → option_or (option_or a b) c ≡ option_or a (option_or b c)
or-assoc None b c = refl
or-assoc (Some x) b c = refl

map-or : {T U : Type 0} (f : T → U) (a b : Option T) → option_map f (option_or a b) ≡ option_or (option_map f a) (option_map f b)
map-or f None b = refl
map-or f (Some x) b = refl

-- the first of one option and others
value-more : (kind size : ℕ) (i : Item) (items : List Item)
    → first_value kind size (i ∷ items) ≡ option_or (first_value kind size (i ∷ [])) (first_value kind size items)
value-more kind size i items = ap (option_map (λ i. i.value)) (find-append (λ i. i.kind == kind && length i.value == size) (i ∷ []) items) ∙ map-or _ _ _

mss-more : (i : Item) (items : List Item) → mss_in (i ∷ items) ≡ option_or (mss_in (i ∷ [])) (mss_in items)
mss-more i items = ap (option_map _) (value-more 2 2 i items) ∙ map-or _ _ _

shift-more : (i : Item) (items : List Item) → shift_in (i ∷ items) ≡ option_or (shift_in (i ∷ [])) (shift_in items)
shift-more i items = ap (option_map _) (value-more 3 1 i items) ∙ map-or _ _ _

known-more : (k : Known) (i : Item) (items : List Item) → joined (joined k (known_in (i ∷ []))) (known_in items) ≡ joined k (known_in (i ∷ items))
unfolding joined known_in
known-more k i items =
    rw (mss-more i items, shift-more i items)
    rw (or-assoc k.mss (mss_in (i ∷ [])) (mss_in items), or-assoc k.shift (shift_in (i ∷ [])) (shift_in items)) refl

start-items : (items : Option (List Item)) → option_map (λ items. joined (record { mss = None; shift = None }) (known_in items)) items ≡ option_map known_in items
unfolding joined known_in
start-items None = refl
start-items (Some items) = refl

-- nothing was found at first
pub walk-start : (bytes : List ℕ) → option_map (λ items. joined (record { mss = None; shift = None }) (known_in items)) (items_of bytes) ≡ option_map known_in (items_of bytes)
walk-start bytes = start-items (items_of bytes)

joined-nothing : (k : Known) → joined k (known_in []) ≡ k
unfolding joined known_in
joined-nothing k = rw (or-none k.mss, or-none k.shift) refl

-- the octets end
pub walk-empty : (k : Known) (bytes : List ℕ) (whole : Option Known) → length bytes ≤ 0
    → option_map (λ items. joined k (known_in items)) (items_of bytes) ≡ whole → whole ≡ Some k
walk-empty k [] whole h w = sym w ∙ ap (λ k. Some k) (joined-nothing k)
walk-empty k (b ∷ bytes) whole h w = absurd (omega arith)

-- the options end
pub walk-end : (k : Known) (bytes : List ℕ) (whole : Option Known) → 0 < length bytes → slice_index bytes 0 ≡ 0
    → option_map (λ items. joined k (known_in items)) (items_of bytes) ≡ whole → whole ≡ Some k
walk-end k [] whole l h w = absurd (omega arith)
walk-end k (zero ∷ bytes) whole l h w = sym w ∙ ap (λ k. Some k) (joined-nothing k)
walk-end k (suc b ∷ bytes) whole l h w = absurd (omega arith)

mapped-item : (k : Known) (i : Item) (items : Option (List Item))
    → option_map (λ items. joined k (known_in items)) (option_map (λ items. i ∷ items) items) ≡ option_map (λ items. joined (joined k (known_in (i ∷ []))) (known_in items)) items
mapped-item k i None = refl
mapped-item k i (Some items) = ap (λ k. Some k) (sym (known-more k i items))

-- one option more
pub walk-item : (k next new : Known) (i : Item) (bytes rest : List ℕ) (whole : Option Known) → BeginsWith bytes i rest
    → next ≡ known_in (i ∷ []) → new ≡ joined k next → option_map (λ items. joined k (known_in items)) (items_of bytes) ≡ whole
    → option_map (λ items. joined new (known_in items)) (items_of rest) ≡ whole
unfolding BeginsWith
walk-item k next new i bytes rest whole b n e w =
    rw (e, n) (sym (mapped-item k i (items_of rest)) ∙ ap (option_map (λ items. joined k (known_in items))) (sym b) ∙ w)
